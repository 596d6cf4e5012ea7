-- The log of a sample, turn by turn.
use Rattle.std.proofs.Common.{◌≡◌, ◌≤◌, ◌+◌, ◌-◌, ◌∙◌, ℕ, zero, suc, Bool, true, false, if◌then◌else◌, List, [], ◌∷◌, ◌++◌, codes, ap, arith, refl, sym, append-nil, append_assoc}
use Rattle.msc_cmd.specs.Samples.{drawn_in, means_yes, next_drawn, sample_log, turn_lines, yes_count}

-- ---- one turn more

one_on : (turn : ℕ) → turn + 1 ≡ suc turn
one_on turn = omega arith

pub drawn_next : (turn seed number : ℕ) → number ≡ drawn_in turn seed → next_drawn number ≡ drawn_in (turn + 1) seed
drawn_next turn seed number is = ap next_drawn is ∙ sym (ap (λ (t : ℕ). drawn_in t seed) (one_on turn))

pub log_next : (turn seed number : ℕ) → number ≡ drawn_in (turn + 1) seed → sample_log turn seed ++ turn_lines (means_yes number) ≡ sample_log (turn + 1) seed
log_next turn seed number is =
    ap (λ (x : ℕ). sample_log turn seed ++ turn_lines (means_yes x)) (is ∙ ap (λ (t : ℕ). drawn_in t seed) (one_on turn)) ∙ sym (ap (λ (t : ℕ). sample_log t seed) (one_on turn))

pub count_next : (turn seed number count : ℕ) → number ≡ drawn_in (turn + 1) seed → count ≡ yes_count turn seed → count + (if means_yes number then 1 else 0) ≡ yes_count (turn + 1) seed
count_next turn seed number count is counted =
    ap (λ (n : ℕ). n + (if means_yes number then 1 else 0)) counted
    ∙ ap (λ (x : ℕ). yes_count turn seed + (if means_yes x then 1 else 0)) (is ∙ ap (λ (t : ℕ). drawn_in t seed) (one_on turn)) ∙ sym (ap (λ (t : ℕ). yes_count t seed) (one_on turn))

-- ---- all turns

pub one_or_none : (b : Bool) → (if b then 1 else 0) ≤ 1
one_or_none true = omega arith
one_or_none false = omega arith

-- no more turns are answered yes than there are
pub few_yeses : (turns seed : ℕ) → yes_count turns seed ≤ turns
few_yeses zero seed = omega arith
few_yeses (suc turn) seed = let before = few_yeses turn seed in let one = one_or_none (means_yes (drawn_in (suc turn) seed)) in omega (arith, before, one)

-- the log of fewer turns begins that of more
pub record HasMore (turn turns seed : ℕ) : Type 0 where
  pub rest : List ℕ
  pub are : sample_log turns seed ≡ sample_log turn seed ++ rest

log_goes_on : (k turn turns seed : ℕ) → turns ≡ turn + k → HasMore turn turns seed
log_goes_on zero turn turns seed e = let same : turns ≡ turn = omega (arith, e) in record { rest = []; are = ap (λ (t : ℕ). sample_log t seed) same ∙ sym (append-nil (sample_log turn seed)) }
log_goes_on (suc k) turn turns seed e =
    let later = log_goes_on k (suc turn) turns seed (omega (arith, e)) in
    let lines = turn_lines (means_yes (drawn_in (suc turn) seed)) in
    record { rest = lines ++ later.rest; are = later.are ∙ append_assoc (sample_log turn seed) lines later.rest }

pub log_has_more : (turn turns seed : ℕ) → turn ≤ turns → HasMore turn turns seed
log_has_more turn turns seed le = log_goes_on (turns - turn) turn turns seed (omega (arith, le))

-- its last line has its end
pub record EndsLine (bytes : List ℕ) : Type 0 where
  pub before : List ℕ
  pub are : bytes ≡ before ++ 10 ∷ []

turn_ends : (b : Bool) → EndsLine (turn_lines b)
turn_ends true = record { before = codes "c: out req to s;\ns: in req from c;\ns: out yes to c;\nc: in yes from s;"; are = refl }
turn_ends false = record { before = codes "c: out req to s;\ns: in req from c;\ns: out no to c;\nc: in no from s;"; are = refl }

pub log_ends : (turns seed : ℕ) → 1 ≤ turns → EndsLine (sample_log turns seed)
log_ends zero seed some = absurd (omega (arith, some))
log_ends (suc turn) seed some =
    let final = turn_ends (means_yes (drawn_in (suc turn) seed)) in
    record {
      before = sample_log turn seed ++ final.before;
      are = ap (λ (bs : List ℕ). sample_log turn seed ++ bs) final.are ∙ sym (append_assoc (sample_log turn seed) final.before (10 ∷ []));
    }
