-- From numbers of labels to labels.
use Rattle.std.specs.List.{slice_get}
use Rattle.std.specs.Prelude.{ℕ, List, [], ◌∷◌, ◌++◌, Option, Some, None, ◌≡◌, map, Contains}
use Rattle.std.proofs.Common.{ap, sym, ◌∙◌, refl, subst}
use Rattle.std.proofs.lemmas.List.Elements.{Contains-get_or}
use Rattle.std.proofs.lemmas.Option.{slice_get_within, get_or_from_slice_get}
use Rattle.msc_base.specs.declared.label.Label.{Label}
use Rattle.msc_base.specs.Orders.{Once}
use Rattle.msc_base.specs.Patterns.{Position, event_at}
use Rattle.msc_unfolding.specs.Runs.{labels_at, IsRun}
use Rattle.msc_unfolding.specs.Unfoldings.{Unfolding, plain}
use Rattle.label_table.specs.Labels.{label_number}
use Rattle.label_table.proofs.Numbering.{absent, present}
use Rattle.chart_term.specs.TermPatterns.{Shape, numbered}
use Rattle.chart_term.specs.TermRuns.{labels as numbers_at, IsLinearRun}
use Rattle.trace_judge.specs.Logs.{AreNumbers}
use Rattle.term_meaning.specs.Naming.{IsNamed}
use Rattle.verdict_meaning.specs.NumberedRuns.{NumberedRun}
use Rattle.term_meaning.specs.Standings.{Stands}
use Rattle.sound_terms.proofs.Places.{some_is, once_place}
use Rattle.term_meaning.proofs.Standing.{stands_there, stands_here}

-- in a table without repeats the label at a place has that number
pub label_numbered : (table : List Label) → Once table → (l : Label) (n : ℕ) → slice_get table n ≡ Some l → label_number table l ≡ Some n
label_numbered table once l n h = found (label_number table l) refl
  where
    found : (o : Option ℕ) → label_number table l ≡ o → label_number table l ≡ Some n
    found None e = absurd (absent l table e (subst (Contains table) (get_or_from_slice_get table n l l h) (Contains-get_or table n l (slice_get_within table n l h))))
    found (Some m) e = e ∙ ap Some (once_place table once m n l (present l table m e) h)

module _ (table : List Label) (names : List (List ℕ)) (s : Shape) (u : Unfolding) (h : Stands numbered plain (IsNamed table names) s u) where
  -- the labels of the positions have the numbers of the positions that stand for them
  there_numbers : Once table → (l : List (Position s)) → AreNumbers table (labels_at u (map h.to l)) (numbers_at s l)
  there_numbers once [] = tt
  there_numbers once (i ∷ l) = (label_numbered table once (event_at plain u (h.to i)).label (event_at numbered s i).label (h.event i).label, there_numbers once l)

  -- and are the labels of these numbers
  there_labels : (l : List (Position s)) (labels : List Label) → AreNumbers table labels (numbers_at s l) → labels_at u (map h.to l) ≡ labels
  there_labels [] [] a = refl
  there_labels [] (k ∷ labels) a = absurd a
  there_labels (i ∷ l) [] a = absurd a
  there_labels (i ∷ l) (k ∷ labels) (a, b) =
      let e : (event_at plain u (h.to i)).label ≡ k = some_is (event_at plain u (h.to i)).label k (sym (h.event i).label ∙ present k table (event_at numbered s i).label a) in
      ap (λ x. x ∷ labels_at u (map h.to l)) e ∙ ap (λ x. k ∷ x) (there_labels l labels b)

  to_and_fro : (l : List (Position u)) → map h.to (map h.from l) ≡ l
  to_and_fro [] = refl
  to_and_fro (i ∷ l) = ap (λ j. j ∷ map h.to (map h.from l)) (h.forth i) ∙ ap (λ k. i ∷ k) (to_and_fro l)

  pub from_numbers : Once table → (l : List (Position u)) (labels : List Label) → labels_at u l ≡ labels → AreNumbers table labels (numbers_at s (map h.from l))
  from_numbers once l labels e =
      subst (λ k. AreNumbers table k (numbers_at s (map h.from l))) (ap (labels_at u) (to_and_fro l) ∙ e) (there_numbers once (map h.from l))

  -- a run by numbers is a run by labels
  pub run_there : (labels : List Label) → NumberedRun table s labels → IsRun u labels
  run_there labels r = record {
    order = map h.to r.run.order;
    linear = stands_there numbered plain (IsNamed table names) s u h r.run.order r.run.linear;
    are = there_labels r.run.order labels (subst (AreNumbers table labels) (sym r.run.are) r.are);
  }

  pub run_here : Once table → (labels : List Label) → IsRun u labels → NumberedRun table s labels
  run_here once labels r = record {
    numbers = numbers_at s (map h.from r.order);
    are = from_numbers once r.order labels r.are;
    run = record { order = map h.from r.order; linear = stands_here numbered plain (IsNamed table names) s u h r.order r.linear; are = refl };
  }

  -- a run whose numbers begin with those of the labels
  pub begun_there : (labels : List Label) (numbers rest : List ℕ) → AreNumbers table labels numbers → IsLinearRun s (numbers ++ rest) → (more : List Label) × IsRun u (labels ++ more)
  begun_there labels numbers rest a r =
      let (more, e) = split r.order labels numbers a r.are in
      (more, record { order = map h.to r.order; linear = stands_there numbered plain (IsNamed table names) s u h r.order r.linear; are = e })
    where
      split : (l : List (Position s)) (labels : List Label) (numbers : List ℕ) → AreNumbers table labels numbers → numbers_at s l ≡ numbers ++ rest → (more : List Label) × (labels_at u (map h.to l) ≡ labels ++ more)
      split l [] [] a e = (labels_at u (map h.to l), refl)
      split l [] (n ∷ numbers) a e = absurd a
      split l (k ∷ labels) [] a e = absurd a
      split [] (k ∷ labels) (n ∷ numbers) a e = absurd cc
      split (i ∷ l) (k ∷ labels) (n ∷ numbers) (a, b) e =
          let p : (event_at numbered s i).label ≡ n = cc in
          let q : numbers_at s l ≡ numbers ++ rest = cc in
          let (more, d) = split l labels numbers b q in
          let f : (event_at plain u (h.to i)).label ≡ k = some_is (event_at plain u (h.to i)).label k (sym (h.event i).label ∙ (ap (slice_get table) p ∙ present k table n a)) in
          (more, ap (λ x. x ∷ labels_at u (map h.to l)) f ∙ ap (λ x. k ∷ x) d)

-- the labels and the numbers of a list that is in two parts
pub numbers_split : (table : List Label) (labels more : List Label) (numbers : List ℕ) → AreNumbers table (labels ++ more) numbers
    → (prefix : List ℕ) × (back : List ℕ) × AreNumbers table labels prefix × (numbers ≡ prefix ++ back)
numbers_split table [] more numbers a = ([], numbers, tt, refl)
numbers_split table (k ∷ labels) more [] a = absurd a
numbers_split table (k ∷ labels) more (n ∷ numbers) (a, b) = let (prefix, back, c, e) = numbers_split table labels more numbers b in (n ∷ prefix, back, (a, c), ap (λ x. n ∷ x) e)
