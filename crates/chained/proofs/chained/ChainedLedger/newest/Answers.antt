use Rattle.std.proofs.Common.{◌∙◌}
use Rattle.chained.specs.Lines.{fen_of, chained_book}
use Rattle.chained.proofs.Whole.{chain_from}
use Rattle.chained.proofs.chained.ChainedLedger.newest.Goals as goal

pub returns-clause-chain : goal.returns-clause-chain
returns-clause-chain c =
    let s = c.args.self.now in
    let n = c.args.number in
    let b = chained_book s in
    chain_from fen_of b.count b.sum s.table.now s.links.used n c.newest.result s.nexts (c.newest.ensures ∙ s.headed n) s.counted s.summed
