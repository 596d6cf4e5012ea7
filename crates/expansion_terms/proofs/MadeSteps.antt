-- Steps of the loop that makes the terms of parts, from the first to the last.
use Rattle.std.specs.List.{slice_get}
use Rattle.std.specs.Prelude.{ℕ, ◌+◌, ◌<◌, List, [], ◌∷◌, ◌++◌, Some, drop, length}
use Rattle.std.proofs.Common.{◌≡◌, refl, sym, ◌∙◌, subst, ap, arith, get_or, append_assoc}
use Rattle.chart_term.specs.Tables.{Tables}
use Rattle.chart_term.specs.Terms.{Tree}
use Rattle.term_tables.specs.NetValues.{NetsValue}
use Rattle.term_permission.specs.Ready.{AreReadyTables}
use Rattle.expansion_tree.specs.declared.tree.Expansion as rust_tree
use Rattle.expansion_tree.specs.Views.{expansion_view, expansions_view}
use Rattle.expansion_terms.specs.MadeTerms.{made, made_all, parts_count}
use Rattle.expansion_terms.specs.PartTerms.{HaveWholeGraphs}
use Rattle.expansion_terms.proofs.Asked.{part_whole}
use Rattle.expansion_terms.proofs.Dropped.{drop_less, item_at}
use Rattle.expansion_terms.proofs.MadeReady.{counted, made_ready}

-- the terms of the parts before that number were made, and the nets are behind those that were there
pub record AreMadeTo (parts : List rust_tree.Expansion) (i : ℕ) (start now : NetsValue) (front : List Tree) : Type 0 where
  pub terms : front ++ (made_all now.tables (expansions_view (drop i parts))).terms ≡ (made_all start.tables (expansions_view parts)).terms
  pub tables : record now { tables = (made_all now.tables (expansions_view (drop i parts))).tables } ≡ record start { tables = (made_all start.tables (expansions_view parts)).tables }
  pub ready : AreReadyTables now.tables

module _ (parts : List rust_tree.Expansion) (start : NetsValue) where
  -- what is made of the parts from that number on, behind these terms
  abbrev rest_terms : NetsValue → List Tree → List rust_tree.Expansion → List Tree
  rest_terms now terms xs = terms ++ (made_all now.tables (expansions_view xs)).terms

  abbrev rest_tables : NetsValue → List rust_tree.Expansion → NetsValue
  rest_tables now xs = record now { tables = (made_all now.tables (expansions_view xs)).tables }

  pub made_step : (i : ℕ) (now next : NetsValue) (terms all : List Tree) (part : rust_tree.Expansion) (term : Tree) → i < length parts → part ≡ get_or parts i part → HaveWholeGraphs (expansions_view parts) → AreMadeTo parts i start now terms
      → term ≡ (made now.tables (expansion_view part)).term → next ≡ record now { tables = (made now.tables (expansion_view part)).tables } → all ≡ terms ++ term ∷ [] → AreMadeTo parts (i + 1) start next all
  made_step i now next terms all part term l at whole h is nets put =
      let here : slice_get parts i ≡ Some part = item_at parts i part l at in
      let split : drop i parts ≡ part ∷ drop (i + 1) parts = drop_less parts i (i + 1) part here refl in
      let m : Tree = (made now.tables (expansion_view part)).term in
      let then : NetsValue = record now { tables = (made now.tables (expansion_view part)).tables } in
      record {
        terms = ap (λ (ys : List Tree). rest_terms next ys (drop (i + 1) parts)) (put ∙ ap (λ (y : Tree). terms ++ y ∷ []) is)
            ∙ (ap (λ (v : NetsValue). rest_terms v (terms ++ m ∷ []) (drop (i + 1) parts)) nets
            ∙ (append_assoc terms (m ∷ []) (made_all then.tables (expansions_view (drop (i + 1) parts))).terms
            ∙ (ap (rest_terms now terms) (sym split) ∙ h.terms)));
        tables = ap (λ (v : NetsValue). rest_tables v (drop (i + 1) parts)) nets ∙ (ap (rest_tables now) (sym split) ∙ h.tables);
        ready = subst (λ (v : NetsValue). AreReadyTables v.tables) (sym nets) (made_ready now.tables (expansion_view part) (part_whole parts i part here whole) h.ready).tables;
      }

-- as many terms as parts
part_for_each : (xs : List rust_tree.Expansion) → length xs ≡ parts_count (expansions_view xs)
part_for_each [] = refl
part_for_each (x ∷ xs) = let rest = part_for_each xs in omega (arith, rest)

pub as_many : (t : Tables) (xs ys : List rust_tree.Expansion) (terms : List Tree) → xs ≡ ys → terms ≡ (made_all t (expansions_view ys)).terms → length xs ≡ length terms
as_many t xs ys terms same are = ap length same ∙ (part_for_each ys ∙ (sym (counted t (expansions_view ys)) ∙ sym (ap length are)))
