-- Terms that fit the tables, one after another.
use Rattle.std.specs.Prelude.{slice_get, Some}
use Rattle.std.proofs.Common.{◌≡◌, ℕ, ◌+◌, Bool, true, false, ◌&&◌, List, [], ◌∷◌, ◌++◌, refl, ap, sym, ◌∙◌, take, drop, length, ◌<◌}
use Rattle.std.proofs.lemmas.List.{take-append-drop}
use Rattle.std.proofs.lemmas.Bool.{and_left}
use Rattle.msc_base.specs.Patterns.{seq, par}
use Rattle.list_facts.proofs.Reading.{take_step}
use Rattle.chart_term.specs.NormalForms.{begun}
use Rattle.chart_term.specs.PartLists.{AreTurns}
use Rattle.chart_term.specs.Terms.{Tree, Join, Choice, trees, Part, Gap, Turn, row_of}
use Rattle.term_tables.specs.Fitting.{fits, fits_all, fits_row, fits_part}
use Rattle.term_tables.specs.NetValues.{NetsValue}
use Rattle.term_tables.proofs.Nodes.{nodes-then, nodes-par, nodes-choice, nodes-tied, nodes-loop, nodes-part}

and_true : (b : Bool) → b ≡ (b && true)
and_true true = refl
and_true false = refl

and_group : (a b c : Bool) → (a && (b && c)) ≡ ((a && b) && c)
and_group true b c = refl
and_group false b c = refl

module _ (v : NetsValue) where
  row-append : (ps qs : List Part) → fits_row v (row_of (ps ++ qs)) ≡ (fits_row v (row_of ps) && fits_row v (row_of qs))
  row-append [] qs = refl
  row-append (Gap c ∷ ps) qs = row-append ps qs
  row-append (Turn x ∷ ps) qs = ap (λ b. fits v x && b) (row-append ps qs) ∙ and_group (fits v x) (fits_row v (row_of ps)) (fits_row v (row_of qs))

  row_one : (p : Part) → fits_row v (row_of (p ∷ [])) ≡ fits_part v p
  row_one (Gap c) = refl
  row_one (Turn x) = sym (and_true (fits v x))

  -- one more
  pub row_fits-next : (ps : List Part) (i : ℕ) (t : Part) → slice_get ps i ≡ Some t → fits_row v (row_of (take i ps)) ≡ true → fits_row v (row_of (take (i + 1) ps)) ≡ fits_part v t
  row_fits-next ps i t p h = ap (λ l. fits_row v (row_of l)) (take_step ps i t p) ∙ row-append (take i ps) (t ∷ []) ∙ ap (λ b. b && fits_row v (row_of (t ∷ []))) h ∙ row_one t

  pub row_fits-more : (ps : List Part) (i : ℕ) (t : Part) → slice_get ps i ≡ Some t → fits_row v (row_of (take i ps)) ≡ true → true ≡ fits_part v t → fits_row v (row_of (take (i + 1) ps)) ≡ true
  row_fits-more ps i t p h f = row_fits-next ps i t p h ∙ sym f

  pub row_fits-first : (ps : List Part) → fits_row v (row_of (take 0 ps)) ≡ true
  row_fits-first [] = refl
  row_fits-first (t ∷ ps) = refl

  -- where the first ones don't fit, not all do
  unfit-row : (ps : List Part) (i : ℕ) → fits_row v (row_of (take i ps)) ≡ false → fits_row v (row_of ps) ≡ false
  unfit-row ps i h = ap (λ l. fits_row v (row_of l)) (sym (take-append-drop i ps)) ∙ row-append (take i ps) (drop i ps) ∙ and_left (fits_row v (row_of (take i ps))) (fits_row v (row_of (drop i ps))) h

  pub row_fits-stop : (ps : List Part) (i : ℕ) (t : Part) → slice_get ps i ≡ Some t → fits_row v (row_of (take i ps)) ≡ true → false ≡ fits_part v t → false ≡ fits_row v (row_of ps)
  row_fits-stop ps i t p h f = sym (unfit-row ps (i + 1) (row_fits-next ps i t p h ∙ sym f))

  -- turns fit as their terms
  pub turns-fit : (ps : List Part) → fits_row v (row_of ps) ≡ fits_all v (trees (begun ps))
  turns-fit [] = refl
  turns-fit (Gap c ∷ ps) = turns-fit ps
  turns-fit (Turn x ∷ ps) = ap (λ b. fits v x && b) (turns-fit ps)

  pub seq-fits : (x : Tree) (ps : List Part) → (x ≡ Join seq (trees (begun ps))) × AreTurns ps → fits_row v (row_of ps) ≡ fits v x
  seq-fits x ps h = turns-fit ps ∙ ap (fits v) (sym h.0)

  pub par-fits : (x : Tree) (ps : List Part) → (x ≡ Join par (trees (begun ps))) × AreTurns ps → fits_row v (row_of ps) ≡ fits v x
  par-fits x ps h = turns-fit ps ∙ ap (fits v) (sym h.0)

  pub choice-fits : (x : Tree) (ps : List Part) → (x ≡ Choice (trees (begun ps))) × AreTurns ps × (0 < length ps) → fits_row v (row_of ps) ≡ fits v x
  choice-fits x ps h = turns-fit ps ∙ ap (fits v) (sym h.0)

pub ruleset fitting = (row_fits-more, row_fits-first, row_fits-stop, seq-fits, par-fits, choice-fits, nodes-then, nodes-par, nodes-choice, nodes-tied, nodes-loop, nodes-part)
