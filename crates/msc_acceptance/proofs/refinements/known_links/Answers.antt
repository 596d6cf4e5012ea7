use Rattle.std.proofs.Common.{rules, ◌≡◌, ◌∙◌, inl, inr, Bool, true, false, ◌||◌, List, [], ◌∷◌, map, refl, sym, subst, ap}
use Rattle.std.specs.List.{list_any}
use Rattle.msc_base.specs.Lists.{IsAmong}
use Rattle.msc_tree.specs.Charts.{Chart}
use Rattle.msc_tree.specs.Views.{chart_view}
use Rattle.msc_acceptance.specs.RefinedTexts.{is_refined_chart}
use Rattle.msc_acceptance.proofs.refinements.known_links.Goals as goal

left_false : (a b : Bool) → (a || b) ≡ false → a ≡ false
left_false true b h = h
left_false false b h = refl

right_false : (a b : Bool) → (a || b) ≡ false → b ≡ false
right_false true b h = absurd cc
right_false false b h = h

none_of : (charts : List Chart) → list_any (λ (b : Bool). b) (map is_refined_chart charts) ≡ false → (c : Chart) → IsAmong charts c → is_refined_chart c ≡ false
none_of [] h c m = absurd m
none_of (d ∷ ds) h c (inl is) = ap is_refined_chart is ∙ left_false (is_refined_chart d) (list_any (λ (b : Bool). b) (map is_refined_chart ds)) h
none_of (d ∷ ds) h c (inr m) = none_of ds (right_false (is_refined_chart d) (list_any (λ (b : Bool). b) (map is_refined_chart ds)) h) c m

pub returns-then-not-any_of : goal.returns-then-not-any_of
returns-then-not-any_of c =
    let e : c.any_of.result ≡ false = search rules in
    none_of (map chart_view c.args.charts.now) (subst (λ (bs : List Bool). list_any (λ (b : Bool). b) bs ≡ false) c.requires.refined (sym c.any_of.ensures ∙ e))
