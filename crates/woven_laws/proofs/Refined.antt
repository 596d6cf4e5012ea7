-- The charts that refine the instances of a chart are those of its text's links.
use Rattle.std.proofs.Common.{◌≡◌, ◌⊎◌, inl, inr, ℕ, Bool, true, false, cond, List, [], ◌∷◌, ◌++◌, Option, Some, None, refl, sym, subst, ap, arith}
use Rattle.std.specs.List.{flat_map}
use Rattle.std.specs.Option.{option_or}
use Rattle.std.specs.Str.{bytes_eq}
use Rattle.chart_links.specs.Links.{Link, Refines, chart_links, decl_links, passage_links, refined_links, used_links}
use Rattle.chart_text.specs.Texts.{Passage, a_head, a_statement, an_item, an_operand, chart_text}
use Rattle.msc_base.specs.Lists.{IsAmong}
use Rattle.msc_meaning.specs.Tables.{Refinement, declared, refined_as, refinement, refinements, refinements_of}
use Rattle.msc_meaning.specs.WovenTables.{chart_decls, declares}
use Rattle.msc_tree.specs.Charts.{Basic, Chart, Content}
use Rattle.msc_tree.specs.Statements.{Statement, Column, Covered, Heading, Ended}
use Rattle.msc_tree.specs.declared.chart.Decl.{Decl}
use Rattle.woven_laws.specs.BuiltCharts.{IsLinked}

-- ---- among lists

among_left : {X : Type 0} (xs ys : List X) (x : X) → IsAmong xs x → IsAmong (xs ++ ys) x
among_left [] ys x h = absurd h
among_left (y ∷ xs) ys x (inl e) = inl e
among_left (y ∷ xs) ys x (inr h) = inr (among_left xs ys x h)

among_right : {X : Type 0} (xs ys : List X) (x : X) → IsAmong ys x → IsAmong (xs ++ ys) x
among_right [] ys x h = h
among_right (y ∷ xs) ys x h = inr (among_right xs ys x h)

among_either : {X : Type 0} (xs ys : List X) (x : X) → IsAmong (xs ++ ys) x → IsAmong xs x ⊎ IsAmong ys x
among_either [] ys x h = inr h
among_either (y ∷ xs) ys x (inl e) = inl (inl e)
among_either (y ∷ xs) ys x (inr h) = elim (among_either xs ys x h) [ inl k ↦ inl (inr k) | inr k ↦ inr k ]

-- ---- each refinement is declared

record IsDeclared (ds : List Decl) (chart : List ℕ) : Type 0 where
  decl : Decl
  among : IsAmong ds decl
  is : decl.refined ≡ Some chart

or_some : (a b : Option (List ℕ)) (x : List ℕ) → option_or a b ≡ Some x → (a ≡ Some x) ⊎ (b ≡ Some x)
or_some None b x h = inr h
or_some (Some y) b x h = inl h

cond_some : (b : Bool) (o : Option (List ℕ)) (x : List ℕ) → cond b o None ≡ Some x → o ≡ Some x
cond_some true o x h = h
cond_some false o x h = absurd cc

as_declared : (ds : List Decl) (name chart : List ℕ) → refined_as ds name ≡ Some chart → IsDeclared ds chart
as_declared [] name chart h = absurd cc
as_declared (d ∷ ds) name chart h = elim (or_some (cond (bytes_eq d.name name) d.refined None) (refined_as ds name) chart h) [
  | inl here ↦ record { decl = d; among = inl refl; is = cond_some (bytes_eq d.name name) d.refined chart here }
  | inr there ↦ let k = as_declared ds name chart there in record { decl = k.decl; among = inr k.among; is = k.is }
]

of_refinement : (name : List ℕ) (o : Option (List ℕ)) (r : Refinement) → IsAmong (refinement name o) r → o ≡ Some r.chart
of_refinement name None r h = absurd h
of_refinement name (Some chart) r (inl e) = ap (λ (x : Refinement). Some x.chart) (sym e)
of_refinement name (Some chart) r (inr h) = absurd h

each_declared : (ds : List Decl) (names : List (List ℕ)) (r : Refinement) → IsAmong (refinements_of ds names) r → IsDeclared ds r.chart
each_declared ds [] r h = absurd h
each_declared ds (n ∷ names) r h = elim (among_either (refinement n (refined_as ds n)) (refinements_of ds names) r h) [
  | inl here ↦ as_declared ds n r.chart (of_refinement n (refined_as ds n) r here)
  | inr there ↦ each_declared ds names r there
]

-- ---- each declaration is linked

passage_linked : (p : Passage) (d : Decl) → IsAmong (declares p) d → (l : Link) → IsAmong (decl_links d) l → IsAmong (passage_links p) l
passage_linked (a_head decl) d (inl e) l k = subst (λ (x : Decl). IsAmong (decl_links x) l) e k
passage_linked (a_head decl) d (inr h) l k = absurd h
passage_linked (a_statement depth scope (Column decl held)) d (inl e) l k = subst (λ (x : Decl). IsAmong (decl_links x) l) e k
passage_linked (a_statement depth scope (Column decl held)) d (inr h) l k = absurd h
passage_linked (a_statement depth scope (Covered cover held)) d h l k = absurd h
passage_linked (a_statement depth scope (Heading decl)) d (inl e) l k = subst (λ (x : Decl). IsAmong (decl_links x) l) e k
passage_linked (a_statement depth scope (Heading decl)) d (inr h) l k = absurd h
passage_linked (a_statement depth scope (Ended name)) d h l k = absurd h
passage_linked (an_item s place form) d h l k = absurd h
passage_linked (an_operand s x) d h l k = absurd h

text_linked : (text : List Passage) (d : Decl) → IsAmong (flat_map declares text) d → (l : Link) → IsAmong (decl_links d) l → IsAmong (flat_map passage_links text) l
text_linked [] d h l k = absurd h
text_linked (p ∷ text) d h l k = elim (among_either (declares p) (flat_map declares text) d h) [
  | inl here ↦ among_left (passage_links p) (flat_map passage_links text) l (passage_linked p d here l k)
  | inr there ↦ among_right (passage_links p) (flat_map passage_links text) l (text_linked text d there l k)
]

pub chart_refined : (c : Chart) (held : List Statement) → c.content ≡ Basic held → (r : Refinement) → IsAmong (refinements (chart_decls c)) r → IsLinked (chart_links c) r.chart
chart_refined c held is r h =
    let k = each_declared (chart_decls c) (declared [] (chart_decls c)) r h in
    let says : IsAmong (decl_links k.decl) (Refines k.decl.name r.chart k.decl.place) = subst (λ (o : Option (List ℕ)). IsAmong (refined_links k.decl.name k.decl.place o) (Refines k.decl.name r.chart k.decl.place)) (sym k.is) (inl refl) in
    let links = flat_map passage_links (chart_text c) in
    record {
      link = Refines k.decl.name r.chart k.decl.place;
      says = subst (λ (x : Content). IsAmong (used_links x links) (Refines k.decl.name r.chart k.decl.place)) (sym is) (text_linked (chart_text c) k.decl k.among (Refines k.decl.name r.chart k.decl.place) says);
      is = refl;
      deep = omega arith;
    }
