-- The verdict by what is left of the term is the only one, and tells the runs of the term.
use Rattle.std.specs.Prelude.{ℕ, ◌≡◌, ◌<◌, List, [], ◌∷◌, ◌++◌, length, refl}
use Rattle.std.proofs.Common.{ap, sym, ◌∙◌, subst, arith, inl, append_assoc}
use Rattle.std.proofs.lemmas.List.{append-nil}
use Rattle.msc_base.specs.declared.label.Label.{Label}
use Rattle.msc_base.specs.declared.verdict.Verdict.{Verdict}
use Rattle.msc_base.specs.declared.verdict.Verdict.TheVariants.{Conforms, Fails, Early, TooLarge}
use Rattle.line_events.specs.declared.event.LineEvent.{LineEvent}
use Rattle.term_tables.specs.NetValues.{NetsValue}
use Rattle.chart_term.specs.Terms.{Tree}
use Rattle.term_laws.specs.Listing.{set_weight}
use Rattle.trace_judge.specs.Laws.{VerdictsTellRuns}
use Rattle.trace_judge.specs.Logs.{labels_of, IsLeft, AreResiduals, BeginsTermRun, IsTermRun, WeighsWithin, WeighsMore}
use Rattle.trace_judge.specs.Sets.{IsSoundFor}
use Rattle.trace_judge.specs.Verdicts.{AreWithin, HasLeft, LeavesSome, LeavesEnding, FailsAt, PassesAt, IsTermVerdict, TellsRuns}
use Rattle.trace_judge.specs.VerdictsBy.{EndsAt}
use Rattle.trace_judge.proofs.Prefixes.{IsCutAt, whole, within, cut_at, AreOrdered, first, second, ordered, first_of_rest, map_more}
use Rattle.trace_judge.proofs.Lefts.{left_last}
use Rattle.trace_judge.proofs.RunLaws.{left_exact, ending_exact}
use Rattle.trace_judge.proofs.SetLaws.{set_weighs}
use Rattle.trace_judge.proofs.VerdictMoves.{told, tells_move}

module _ (v : NetsValue) (x : Tree) where
  -- what is left after events is left of what is left after a prefix of them
  before_last : (prefix : List LineEvent) (e : LineEvent) → HasLeft v x (prefix ++ e ∷ []) → HasLeft v x prefix
  before_last prefix e h =
      let l = left_last v x h.term (labels_of prefix) e.label (subst (λ (l : List Label). IsLeft v x l h.term) (map_more (λ (d : LineEvent). d.label) prefix (e ∷ [])) h.left) in
      record { term = l.term; left = l.left }

  pub front_left : (prefix rest : List LineEvent) → HasLeft v x (prefix ++ rest) → HasLeft v x prefix
  front_left prefix [] h = subst (HasLeft v x) (append-nil prefix) h
  front_left prefix (e ∷ rest) h = before_last prefix e (front_left (prefix ++ e ∷ []) rest (subst (HasLeft v x) (sym (append_assoc prefix (e ∷ []) rest)) h))

  -- what weighs something is something
  some_left : (events : List LineEvent) (set : List Tree) → AreResiduals v x (labels_of events) set → 0 < set_weight set → HasLeft v x events
  some_left events [] r l = absurd (omega arith)
  some_left events (y ∷ ys) r l = record { term = y; left = (r.exact y).to (inl refl) }

  pub above_left : (budget : ℕ) (events : List LineEvent) → WeighsMore v x budget (labels_of events) → HasLeft v x events
  above_left budget events h = some_left events h.set h.are (omega (arith, h.above))

  -- one weight isn't within the budget and above it
  pub not_both : (budget : ℕ) (l : List Label) → WeighsWithin v x budget l → WeighsMore v x budget l → ⊥
  not_both budget l h g = absurd (omega (arith, h.within, g.above, set_weighs v x l h.set g.set h.are g.are))

  module _ (budget : ℕ) (events : List LineEvent) where
    -- the prefix after which nothing is left is the only one, and nothing passes the budget
    fails_later : {n k m l : ℕ} (a : EndsAt (LeavesEnding v x) (LeavesSome v x) events n k) (b : EndsAt (LeavesEnding v x) (LeavesSome v x) events m l) (y : LineEvent) (rest : List LineEvent) → b.prefix ≡ a.prefix ++ y ∷ rest → ⊥
    fails_later a b y rest q =
        let same : y ≡ a.at = first_of_rest a.prefix y a.at (rest ++ b.at ∷ b.back) a.back (sym (append_assoc a.prefix (y ∷ rest) (b.at ∷ b.back)) ∙ ap (λ (l : List LineEvent). l ++ b.at ∷ b.back) (sym q) ∙ sym b.are ∙ a.are) in
        a.hopeless (front_left (a.prefix ++ a.at ∷ []) rest (subst (HasLeft v x) (q ∙ sym (append_assoc a.prefix (y ∷ []) rest) ∙ ap (λ (e : LineEvent). (a.prefix ++ e ∷ []) ++ rest) same) b.begins))

    fails_same : {n k m l : ℕ} (a : EndsAt (LeavesEnding v x) (LeavesSome v x) events n k) (b : EndsAt (LeavesEnding v x) (LeavesSome v x) events m l) → b.prefix ≡ a.prefix → (n ≡ m) × (k ≡ l)
    fails_same {n} {k} {m} {l} a b q =
        let same : b.at ≡ a.at = first_of_rest a.prefix b.at a.at b.back a.back (ap (λ (f : List LineEvent). f ++ b.at ∷ b.back) (sym q) ∙ sym b.are ∙ a.are) in
        let count : length b.prefix ≡ length a.prefix = ap (λ (f : List LineEvent). length f) q in
        (omega (arith, a.number_is, b.number_is, count), a.line_is ∙ ap (λ (e : LineEvent). e.line) (sym same) ∙ sym b.line_is)

    only_fails : {n k m l : ℕ} → EndsAt (LeavesEnding v x) (LeavesSome v x) events n k → EndsAt (LeavesEnding v x) (LeavesSome v x) events m l → (n ≡ m) × (k ≡ l)
    only_fails {n} {k} {m} {l} a b = go (ordered a.prefix b.prefix (a.at ∷ a.back) (b.at ∷ b.back) (sym a.are ∙ b.are))
      where
        go : AreOrdered a.prefix b.prefix → (n ≡ m) × (k ≡ l)
        go (first [] q) = fails_same a b (q ∙ append-nil a.prefix)
        go (first (y ∷ rest) q) = absurd (fails_later a b y rest q)
        go (second y rest q) = absurd (fails_later b a y rest q)

    passes_later : {n m : ℕ} (a : PassesAt v x budget events n) (b : PassesAt v x budget events m) (y : LineEvent) (rest : List LineEvent) → b.prefix ≡ a.prefix ++ y ∷ rest → ⊥
    passes_later a b y rest q = not_both budget (labels_of a.prefix) (b.within a.prefix y rest q) a.above

    only_passes : {n m : ℕ} → PassesAt v x budget events n → PassesAt v x budget events m → n ≡ m
    only_passes {n} {m} a b = go (ordered a.prefix b.prefix a.back b.back (sym a.are ∙ b.are))
      where
        go : AreOrdered a.prefix b.prefix → n ≡ m
        go (first [] q) = let count : length b.prefix ≡ length a.prefix = ap (λ (f : List LineEvent). length f) (q ∙ append-nil a.prefix) in omega (arith, a.number_is, b.number_is, count)
        go (first (y ∷ rest) q) = absurd (passes_later a b y rest q)
        go (second y rest q) = absurd (passes_later b a y rest q)

    fails_passes : {n k m : ℕ} → FailsAt v x budget events n k → PassesAt v x budget events m → ⊥
    fails_passes a b = go (ordered (a.ends.prefix ++ a.ends.at ∷ []) b.prefix a.ends.back b.back (append_assoc a.ends.prefix (a.ends.at ∷ []) a.ends.back ∙ sym a.ends.are ∙ b.are))
      where
        go : AreOrdered (a.ends.prefix ++ a.ends.at ∷ []) b.prefix → ⊥
        go (first rest q) = a.ends.hopeless (front_left (a.ends.prefix ++ a.ends.at ∷ []) rest (subst (HasLeft v x) q (above_left budget b.prefix b.above)))
        go (second y rest q) = inside (cut_at a.ends.prefix a.ends.at b.prefix (y ∷ rest) q)
          where
            inside : IsCutAt a.ends.prefix a.ends.at b.prefix (y ∷ rest) → ⊥
            inside (whole p r) = cc
            inside (within others p r) = not_both budget (labels_of b.prefix) (a.within b.prefix others p) b.above

    within_passes : {m : ℕ} → AreWithin v x budget events → PassesAt v x budget events m → ⊥
    within_passes h b = not_both budget (labels_of b.prefix) (h b.prefix b.back b.are) b.above

    left_fails : {n k : ℕ} → HasLeft v x events → EndsAt (LeavesEnding v x) (LeavesSome v x) events n k → ⊥
    left_fails h a = a.hopeless (front_left (a.prefix ++ a.at ∷ []) a.back (subst (HasLeft v x) (a.are ∙ sym (append_assoc a.prefix (a.at ∷ []) a.back)) h))

    ends_left : LeavesEnding v x (labels_of events) → HasLeft v x events
    ends_left e = record { term = e.term; left = e.left }

    pub one_verdict : (p q : Verdict) → IsTermVerdict v x budget events p → IsTermVerdict v x budget events q → p ≡ q
    one_verdict (Conforms n) (Conforms m) h g = ap Conforms (h.0 ∙ sym g.0)
    one_verdict (Conforms n) (Fails k l) h g = absurd (left_fails (ends_left h.2) g.ends)
    one_verdict (Conforms n) (Early m) h g = absurd (g.2.unfinished h.2)
    one_verdict (Conforms n) (TooLarge m) h g = absurd (within_passes h.1 g)
    one_verdict (Fails n k) (Conforms m) h g = absurd (left_fails (ends_left g.2) h.ends)
    one_verdict (Fails n k) (Fails m l) h g = let e = only_fails h.ends g.ends in λ i. Fails (e.0 i) (e.1 i)
    one_verdict (Fails n k) (Early m) h g = absurd (left_fails g.2.begins h.ends)
    one_verdict (Fails n k) (TooLarge m) h g = absurd (fails_passes h g)
    one_verdict (Early n) (Conforms m) h g = absurd (h.2.unfinished g.2)
    one_verdict (Early n) (Fails k l) h g = absurd (left_fails h.2.begins g.ends)
    one_verdict (Early n) (Early m) h g = ap Early (h.0 ∙ sym g.0)
    one_verdict (Early n) (TooLarge m) h g = absurd (within_passes h.1 g)
    one_verdict (TooLarge n) (Conforms m) h g = absurd (within_passes g.1 h)
    one_verdict (TooLarge n) (Fails m l) h g = absurd (fails_passes g h)
    one_verdict (TooLarge n) (Early m) h g = absurd (within_passes g.1 h)
    one_verdict (TooLarge n) (TooLarge m) h g = ap TooLarge (only_passes h g)

pub tells_runs : (v : NetsValue) (x : Tree) (budget : ℕ) (events : List LineEvent) (verdict : Verdict) → IsSoundFor v x → IsTermVerdict v x budget events verdict → TellsRuns v x events verdict
tells_runs v x budget events verdict h i =
    tells_move (LeavesEnding v x) (LeavesSome v x) (IsTermRun v x) (BeginsTermRun v x) (ending_exact v x h) (left_exact v x h) events verdict
    (told (WeighsWithin v x budget) (WeighsMore v x budget) (LeavesEnding v x) (LeavesSome v x) events verdict i)

pub verdicts_tell_runs : VerdictsTellRuns
verdicts_tell_runs = record { one = one_verdict; runs = tells_runs }
