-- A number with zeros before it, digit by digit.
use Rattle.std.proofs.Common.{◌≡◌, ℕ, ◌+◌, ◌-◌, ◌/◌, ◌%◌, ◌^◌, ◌<◌, ◌≤◌, List, [], ◌∷◌, ◌++◌, length, replicate, decimal, inl, inr, sym, ap, ap₂, ◌∙◌, append_assoc, append-nil, arith, length-append}
use Rattle.std.proofs.Math.Nat.{sub-zero}
use Rattle.std.proofs.lemmas.Bool.{cases_lt}
use Rattle.std.proofs.lemmas.Fmt.{decimal_digit, decimal_step}
use Rattle.std.proofs.lemmas.List.{replicate_more}
use Rattle.std.specs.Fmt.{styled_decimal, padded_integral, char_count, format_spec}

-- what a number writes, with zeros before it up to a width
abbrev filled : (width : ℕ) → ℕ → List ℕ
filled width n = replicate (width - length (decimal n)) 48 ++ decimal n

filled_one : (n : ℕ) → n < 10 → filled 1 n ≡ decimal n
filled_one n h = rw (decimal_digit n h)

step_one : (width n : ℕ) → 0 < width → n < 10 → filled (width + 1) n ≡ filled width (n / 10) ++ decimal (n % 10)
step_one width n room h =
    let digit = decimal_digit n h in
    let none : decimal (n / 10) ≡ 48 ∷ [] = ap decimal (omega arith) ∙ decimal_digit 0 (omega arith) in
    let last : decimal n ≡ decimal (n % 10) = ap decimal (omega arith) in
    let zeros : replicate (width + 1 - 1) 48 ≡ replicate (width - 1) 48 ++ 48 ∷ [] = ap (λ k. replicate k 48) (omega arith) ∙ sym (replicate_more (width - 1) 48) in
    let before : replicate (width + 1 - length (decimal n)) 48 ≡ filled width (n / 10) = rw (digit, none) zeros in
    ap₂ (λ (a b : List ℕ). a ++ b) before last

step_more : (width n : ℕ) → 10 ≤ n → n < 2 ^ 64 → filled (width + 1) n ≡ filled width (n / 10) ++ decimal (n % 10)
step_more width n h small =
    let front = decimal (n / 10) in
    let back = decimal (n % 10) in
    let digit = decimal_digit (n % 10) (omega arith) in
    let parts : decimal n ≡ front ++ back = decimal_step n h small ∙ ap (λ (b : List ℕ). front ++ b) (sym digit) in
    let one : length back ≡ 1 = ap length digit in
    let count : width + 1 - length (front ++ back) ≡ width - length front = omega (arith, length-append front back) in
    ap (λ (l : List ℕ). replicate (width + 1 - length l) 48 ++ l) parts
    ∙ ap (λ k. replicate k 48 ++ (front ++ back)) count
    ∙ sym (append_assoc (replicate (width - length front) 48) front back)

filled_step : (width n : ℕ) → 0 < width → n < 2 ^ 64 → filled (width + 1) n ≡ filled width (n / 10) ++ decimal (n % 10)
filled_step width n room small = elim (cases_lt n 10) [ inl h ↦ step_one width n room h | inr h ↦ step_more width n h small ]

filled_two : (n : ℕ) → n < 100 → filled 2 n ≡ decimal (n / 10) ++ decimal (n % 10)
filled_two n h = filled_step 1 n (omega arith) (omega arith) ∙ ap (λ (l : List ℕ). l ++ decimal (n % 10)) (filled_one (n / 10) (omega arith))

filled_four : (n : ℕ) → n < 10000 → filled 4 n ≡ decimal (n / 10 / 10 / 10) ++ (decimal (n / 10 / 10 % 10) ++ (decimal (n / 10 % 10) ++ decimal (n % 10)))
filled_four n h =
    rw (filled_step 3 n (omega arith) (omega arith), filled_step 2 (n / 10) (omega arith) (omega arith), filled_two (n / 10 / 10) (omega arith))
    (simp append_assoc)

-- ---- yuan, from units and from fen

four : (n : ℕ) → styled_decimal (format_spec 32 0 4 4 (2 ^ 64 - 1)) n ≡ filled 4 n
unfolding padded_integral char_count
four n = simp (append-nil, sub-zero)

two : (n : ℕ) → styled_decimal (format_spec 32 0 4 2 (2 ^ 64 - 1)) n ≡ filled 2 n
unfolding padded_integral char_count
two n = simp (append-nil, sub-zero)

pub last_four : (u : ℕ) → styled_decimal (format_spec 32 0 4 4 (2 ^ 64 - 1)) (u % 10000) ≡ decimal (u / 1000 % 10) ++ (decimal (u / 100 % 10) ++ (decimal (u / 10 % 10) ++ decimal (u % 10)))
last_four u =
    let m = u % 10000 in
    let e : m / 10 / 10 / 10 ≡ u / 1000 % 10 = omega arith in
    let f : m / 10 / 10 % 10 ≡ u / 100 % 10 = omega arith in
    let g : m / 10 % 10 ≡ u / 10 % 10 = omega arith in
    let h : m % 10 ≡ u % 10 = omega arith in
    rw (four (u % 10000), filled_four (u % 10000) (omega arith), e, f, g, h)

pub last_two : (u : ℕ) → styled_decimal (format_spec 32 0 4 2 (2 ^ 64 - 1)) (u % 100) ≡ decimal (u / 10 % 10) ++ decimal (u % 10)
last_two u =
    let m = u % 100 in
    let e : m / 10 ≡ u / 10 % 10 = omega arith in
    let f : m % 10 ≡ u % 10 = omega arith in
    rw (two (u % 100), filled_two (u % 100) (omega arith), e, f)
