-- What charts name: nothing where they have no links, and what they come to where each extent is kept.
use Rattle.std.specs.List.{list_any}
use Rattle.std.proofs.Common.{◌≡◌, ◌||◌, Bool, inl, inr, Result, Ok, Err, IfOk, None, ℕ, zero, suc, List, [], ◌∷◌, Some, Option, length, map, replicate, slice_get, refl, sym, subst, ap, ◌∙◌}
use Rattle.chart_extents.specs.Capped.{AreKept, names_of}
use Rattle.chart_extents.specs.Extents.{Sized, sized_charts, sized_from, summaries}
use Rattle.chart_extents.specs.declared.extent.Extent.{Extent}
use Rattle.chart_forms.specs.TiedTexts.{are_tied, is_tied_text}
use Rattle.chart_links.specs.Links.{Link}
use Rattle.chart_links.specs.Ranks.{AreRanks}
use Rattle.chart_links.specs.References.{AtLink, AtLinks, LinkMisses, LinkRecurs, LinkUncovers}
use Rattle.chart_links.specs.Summaries.{Summary, summary_of}
use Rattle.chart_text.specs.Texts.{chart_text}
use Rattle.join_sizes.specs.JoinSizes.{AreJoinSizes}
use Rattle.join_sizes.specs.JoinSizeLaws.{JoinSizesAreKnown}
use Rattle.level_pieces.proofs.LeastLaws.{least_same}
use Rattle.msc_base.specs.Lists.{IsAmong}
use Rattle.msc_base.specs.Places.{IsLeast}
use Rattle.msc_base.specs.declared.memory.NoMemory.{NoMemory}
use Rattle.msc_base.specs.declared.place.Place.{Place}
use Rattle.msc_rules.specs.FirstFaults.{IsBest}
use Rattle.msc_rules.specs.Rules.{number_of}
use Rattle.msc_rules.specs.declared.first_fault.Broken.{Broken}
use Rattle.msc_rules.specs.declared.rule.Rule.{Rule}
use Rattle.msc_tree.specs.Charts.{Chart}
use Rattle.msc_acceptance.specs.Acceptance.{BreaksOf}
use Rattle.msc_acceptance.specs.Deciding.{HaveExtents, IsFirstOf, link_groups, references, sizes}
use Rattle.msc_acceptance.specs.Linkless.{AreLinkless}
use Rattle.msc_acceptance.specs.SizedCharts.{OfSizes}
use Rattle.msc_acceptance.proofs.AcceptLaws.{first_of_links}

-- ---- charts without links

pub linkless_holds : (Holds : Summary → Link → Type 0) (charts : List Summary) → AreLinkless charts → (q : Place) → AtLinks Holds charts q → ⊥
linkless_holds Holds [] h q g = g
linkless_holds Holds (c ∷ charts) h q (inl g) = subst (λ (links : List Link). AtLink (Holds c) links q) h.0 g
linkless_holds Holds (c ∷ charts) h q (inr g) = linkless_holds Holds charts h.1 q g

linkless_at : (charts : List Summary) (i : ℕ) (c : Summary) → AreLinkless charts → slice_get charts i ≡ Some c → c.links ≡ []
linkless_at [] i c h e = absurd cc
linkless_at (d ∷ charts) zero c h e = let same : d ≡ c = cc in subst (λ (x : Summary). x.links ≡ []) same h.0
linkless_at (d ∷ charts) (suc i) c h e = linkless_at charts i c h.1 e

long : (n : ℕ) → length {A = ℕ} (replicate n 0) ≡ n
long zero = refl
long (suc n) = ap suc (long n)

pub no_ranks : (charts : List Summary) (n : ℕ) → AreLinkless charts → n ≡ length charts → AreRanks charts (replicate n 0)
no_ranks charts n h e = record {
  len = long n ∙ e;
  falls = λ i j chart named link at there says is. absurd (subst (λ (links : List Link). IsAmong links link) (linkless_at charts i chart h at) says);
}

-- ---- what charts come to

at_index : {A : Type 0} (xs : List A) (x : A) → IsAmong xs x → (i : ℕ) × (slice_get xs i ≡ Some x)
at_index [] x m = absurd m
at_index (y ∷ xs) x (inl e) = (0, ap Some (sym e))
at_index (y ∷ xs) x (inr m) = let (i, at) = at_index xs x m in (suc i, at)

pub have_extents : (charts : List Sized) (values : List Extent) → AreKept charts values → HaveExtents charts
have_extents charts values kept chart among =
    let (i, at) = at_index charts chart among in
    let one = kept.each i chart at in (one.all, one.is)

summaries_from : (joined : List ℕ) (i : ℕ) (charts : List Chart) → summaries (sized_from joined i charts) ≡ map summary_of charts
summaries_from joined i [] = refl
summaries_from joined i (c ∷ charts) = ap (λ (l : List Summary). summary_of c ∷ l) (summaries_from joined (suc i) charts)

pub sized_summaries : (charts : List Chart) (joined : List ℕ) → summaries (sized_charts charts joined) ≡ map summary_of charts
sized_summaries charts joined = summaries_from joined 0 charts

names_from : (joined : List ℕ) (i : ℕ) (charts : List Chart) → names_of (sized_from joined i charts) ≡ map (λ (c : Chart). c.name) charts
names_from joined i [] = refl
names_from joined i (c ∷ charts) = ap (λ (l : List (List ℕ)). c.name ∷ l) (names_from joined (suc i) charts)

pub sized_names : (charts : List Chart) (joined : List ℕ) → names_of (sized_charts charts joined) ≡ map (λ (c : Chart). c.name) charts
sized_names charts joined = names_from joined 0 charts

-- what holds of charts with what their joins add holds of no others
module _ (law : JoinSizesAreKnown) (charts : List Chart) (joined : List ℕ) (are : AreJoinSizes charts joined) (Holds : List Sized → Place → Type 0) where
  of_sizes : (q : Place) → Holds (sized_charts charts joined) q → OfSizes charts (λ sized. Holds sized q)
  of_sizes q h = record { joined = joined; are = are; holds = h }

  from_sizes : (q : Place) → OfSizes charts (λ sized. Holds sized q) → Holds (sized_charts charts joined) q
  from_sizes q h = subst (λ (l : List ℕ). Holds (sized_charts charts l) q) (law.one charts h.joined joined h.are are) h.holds

  pub least_of_sizes : (o : Option Place) → IsLeast (Holds (sized_charts charts joined)) o → IsLeast (λ q. OfSizes charts (λ sized. Holds sized q)) o
  least_of_sizes o h = least_same (Holds (sized_charts charts joined)) (λ q. OfSizes charts (λ sized. Holds sized q)) o of_sizes from_sizes h

any_mapped : (charts : List Chart) → list_any (λ b. b) (map (λ (c : Chart). is_tied_text (chart_text c)) charts) ≡ are_tied charts
any_mapped [] = refl
any_mapped (c ∷ charts) = ap (λ (b : Bool). is_tied_text (chart_text c) || b) (any_mapped charts)

pub any_tied : (charts : List Chart) (list : List Bool) → list ≡ map (λ (c : Chart). is_tied_text (chart_text c)) charts → list_any (λ b. b) list ≡ are_tied charts
any_tied charts list is = ap (list_any (λ b. b)) is ∙ any_mapped charts

-- ---- groups of rules

-- where none names another, references keep the rules
pub linkless_kept : (charts : List Chart) → AreLinkless (map summary_of charts) → IsBest number_of (BreaksOf charts) references None
linkless_kept charts none r q (inl e) h = linkless_holds (LinkMisses (map summary_of charts)) (map summary_of charts) none q (subst (λ (x : Rule). BreaksOf charts x q) e h)
linkless_kept charts none r q (inr (inl e)) h = linkless_holds (LinkRecurs (map summary_of charts)) (map summary_of charts) none q (subst (λ (x : Rule). BreaksOf charts x q) e h)
linkless_kept charts none r q (inr (inr (inl e))) h = linkless_holds (LinkUncovers (map summary_of charts)) (map summary_of charts) none q (subst (λ (x : Rule). BreaksOf charts x q) e h)
linkless_kept charts none r q (inr (inr (inr m))) h = m

pub both_groups : (charts : List Chart) (r : Result (Option (Broken Rule)) NoMemory) → IsBest number_of (BreaksOf charts) references None → IfOk r (IsBest number_of (BreaksOf charts) sizes) → IfOk r (IsFirstOf charts link_groups)
both_groups charts (Ok o) a h = first_of_links charts o a h
both_groups charts (Err e) a h = tt

pub always : {A : Type 0} (P : Type 0) (r : Result A NoMemory) (Q : A → Type 0) → IfOk r (λ x. P) → IfOk r (λ x. Q x → P)
always P (Ok x) Q p = λ q. p
always P (Err e) Q p = tt
