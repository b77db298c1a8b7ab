-- The lines of a bill by their place.
use Rattle.std.proofs.Common.{◌≡◌, ℕ, zero, suc, ◌+◌, ◌-◌, ◌<◌, ◌≤◌, List, [], ◌∷◌, ◌++◌, length, get_or, take, drop, MatchOption, Some, None, Option, IfSome, is_some, nat_eq, ◌≢◌, sym, refl, ap, ◌∙◌, ap₂, inl, inr, arith, rules}
use Rattle.std.specs.Iterator.{YieldsFirst, MakesProgress, item_count}
use Rattle.std.proofs.lemmas.Bool.{eqb-true, eqb-false}
use Rattle.std.proofs.lemmas.List.{at_drop_all, drop_more, flat_map_more}
use Rattle.std.proofs.Math.Seq.{take-nil}
use Rattle.std.proofs.lemmas.Option.{slice_get_read, slice_get_within, slice_get_cases, get_or_from_slice_get}
use Rattle.std.specs.List.{slice_get, slice_range}
use Rattle.sheet.specs.Rows.{kwh, kwh_of, numbered}
use Rattle.sheet.specs.Sums.{total}
use Rattle.sheet.specs.declared.quantity.Kwh.{Kwh}
use Rattle.sheet.specs.declared.row.Row.{Row}
use Rattle.tariff.specs.declared.band.Share.{Share}
use Rattle.bill.specs.Lines.{month_line, sum_line, end_lines, lines}
use Rattle.bill.specs.Texts.{line, page}
use Rattle.bill.specs.Shandong.{shares}
use Rattle.bill.specs.declared.lines.Line.{Line}
use Rattle.bill.specs.declared.lines.Line.TheVariants.{Month, Total, Tier}

-- how many lines there are, the line at a place of the numbered ones, and one past them
pub length_numbered : {X : Type 0} (f : ℕ → X → Line) (n : ℕ) (xs : List X) (ys : List Line) → length (numbered f n xs ++ ys) ≡ length xs + length ys
unfolding numbered
length_numbered f n [] ys = omega arith
length_numbered f n (x ∷ xs) ys = omega (arith, length_numbered f (n + 1) xs ys)

pub numbered_at : {X : Type 0} (f : ℕ → X → Line) (n : ℕ) (xs : List X) (ys : List Line) (k : ℕ) (x : X) → slice_get xs k ≡ Some x → slice_get (numbered f n xs ++ ys) k ≡ Some (f (k + n) x)
unfolding numbered
numbered_at f n [] ys k x h = cc
numbered_at f n (y ∷ xs) ys zero x h =
    let same : y ≡ x = cc in
    ap₂ (λ m z. Some (f m z)) (omega arith) same
numbered_at f n (y ∷ xs) ys (suc k) x h = numbered_at f (n + 1) xs ys k x h ∙ ap (λ m. Some (f m x)) (omega arith)

pub numbered_past : {X : Type 0} (f : ℕ → X → Line) (n : ℕ) (xs : List X) (ys : List Line) (k j : ℕ) → k ≡ length xs + j → slice_get (numbered f n xs ++ ys) k ≡ slice_get ys j
unfolding numbered
numbered_past f n [] ys k j h = ap (slice_get ys) (omega arith)
numbered_past f n (x ∷ xs) ys zero j h = absurd (omega arith)
numbered_past f n (x ∷ xs) ys (suc k) j h = numbered_past f (n + 1) xs ys k j (omega arith)

-- a place past the first of two lists of lines
pub nth_second : (xs ys : List Line) (k j : ℕ) → k ≡ length xs + j → slice_get (xs ++ ys) k ≡ slice_get ys j
nth_second [] ys k j h = ap (slice_get ys) (omega arith)
nth_second (x ∷ xs) ys zero j h = absurd (omega arith)
nth_second (x ∷ xs) ys (suc k) j h = nth_second xs ys k j (omega arith)

-- what was read of a list is there
got : {X : Type 0} (xs ys : List X) (k : ℕ) (x : X) → xs ≡ ys → k < length xs → x ≡ get_or xs k x → slice_get ys k ≡ Some x
got {X = X} xs ys k x is h at = ap (λ (l : List X). slice_get l k) (sym is) ∙ slice_get_read xs (length xs) k x refl h at

-- ---- the lines of the tiers, and the sum

pub end_tier : (rows : List Row) (ss : List Share) (k : ℕ) (s : Share) → ss ≡ shares rows → k < length ss → s ≡ get_or ss k s → Some (Tier (k + 1) s) ≡ slice_get (end_lines rows) k
end_tier rows ss k s is h at = sym (numbered_at Tier 1 (shares rows) (sum_line rows ∷ []) k s (got ss (shares rows) k s is h at))

-- what stands there past the tiers: the sum, and then nothing
pub end_rest : (rows : List Row) (ss : List Share) (k : ℕ) (o : Option Line) → ss ≡ shares rows → length ss ≤ k → is_some o ≡ nat_eq k (length ss) → IfSome o (λ l. l ≡ sum_line rows) → o ≡ slice_get (end_lines rows) k
end_rest rows ss k (Some l) is past here told =
    let size : length ss ≡ length (shares rows) = ap length is in
    let at : k ≡ length ss = eqb-true k (length ss) (sym here) in
    ap (λ (x : Line). Some x) told ∙ sym (numbered_past Tier 1 (shares rows) (sum_line rows ∷ []) k 0 (omega arith))
end_rest rows ss k None is past here told =
    let size : length ss ≡ length (shares rows) = ap length is in
    let off : k ≢ length ss = eqb-false k (length ss) (sym here) in
    sym (numbered_past Tier 1 (shares rows) (sum_line rows ∷ []) k (suc (k - suc (length ss))) (omega arith))

-- ---- the lines before them

pub line_month : (rows rs : List Row) (k : ℕ) (r : Row) (q : Kwh) → rs ≡ rows → k < length rs → r ≡ get_or rs k r → q ≡ kwh_of (kwh r) → Some (Month (k + 1) q r.multi) ≡ slice_get (lines rows) k
line_month rows rs k r q is h at used =
    ap (λ (x : Kwh). Some (Month (k + 1) x r.multi)) used
    ∙ sym (numbered_at month_line 1 rows (Total (kwh_of (total rows)) ∷ end_lines rows) k r (got rs rows k r is h at))

pub line_total : (rows : List Row) (k : ℕ) → length rows ≡ 12 → k ≡ 12 → Some (Total (kwh_of (total rows))) ≡ slice_get (lines rows) k
line_total rows k twelve h = sym (numbered_past month_line 1 rows (Total (kwh_of (total rows)) ∷ end_lines rows) k 0 (omega arith))

pub line_end : (rows : List Row) (k : ℕ) → length rows ≡ 12 → 13 ≤ k → slice_get (end_lines rows) (k - 13) ≡ slice_get (lines rows) k
line_end rows k twelve h = sym (numbered_past month_line 1 rows (Total (kwh_of (total rows)) ∷ end_lines rows) k (suc (k - 13)) (omega arith))

-- ---- a page, line after line

pub page_push : (xs : List Line) (x : Line) → page (xs ++ x ∷ []) ≡ page xs ++ (line x ++ (10 ∷ []))
page_push xs x = sym (flat_map_more (λ l. line l ++ (10 ∷ [])) [] xs x)

-- ---- a walk over all lines

pub walked : (all : List Line) (from to next end : ℕ) (o : Option Line) → from < to → next ≡ from + 1 → end ≡ to → o ≡ slice_get all from
    → MatchOption o ((slice_range all from to ≡ []) × (slice_range all next end ≡ [])) (λ x. slice_range all from to ≡ x ∷ slice_range all next end)
walked all from to next end None h step same at =
    let past : length all ≤ from = elim (slice_get_cases all from).1 [ inl w ↦ cc | inr w ↦ w.0 ] in
    (at_drop_all (λ l. take (to - from) l) all from past ∙ take-nil (to - from), at_drop_all (λ l. take (end - next) l) all next (omega arith) ∙ take-nil (end - next))
walked all from to next end (Some x) h step same at =
    let room : from < length all = slice_get_within all from x (sym at) in
    let is : get_or all from x ≡ x = get_or_from_slice_get all from x x (sym at) in
    let left : to - from ≡ suc (end - next) = omega arith in
    ap₂ (λ n (l : List Line). take n l) left (drop_more all from x room)
    ∙ ap₂ (λ (y : Line) k. y ∷ take (end - next) (drop k all)) is (sym step)

pub walk_goes : {S A : Type 0} (rest : S → List A) (s t : S) (r : Option A) → YieldsFirst rest s r t → MakesProgress (λ _. Unit {0}) (item_count rest) s r t
walk_goes rest s t None h = search rules
walk_goes rest s t (Some x) h =
    let size : length (rest s) ≡ length (rest t) + 1 = ap length h ∙ omega arith in
    search (rules, arith)
