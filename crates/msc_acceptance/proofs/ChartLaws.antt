-- What charts are woven to.
use Rattle.std.proofs.Common.{◌≡◌, ◌⊎◌, inl, inr, ℕ, List, Option, Some, None, refl, sym, subst, ap, ◌∙◌}
use Rattle.general_ordering.specs.EventNames.{BreaksNameRule, EventNameRule}
use Rattle.level_pieces.proofs.LeastLaws.{least_same}
use Rattle.level_weaving.proofs.OneBody.{one_body}
use Rattle.level_weaving.specs.WeaveFaults.{IsAloneIn}
use Rattle.level_weaving.specs.declared.weaving.WeaveFault.TheVariants as fault
use Rattle.msc_acceptance.specs.ChartFaults.{ContentCrosses, CrossesAt, IsAloneAt, IsBodyOf, IsMisnamedAt}
use Rattle.msc_acceptance.specs.Deciding.{IsWeaveFault, IsWovenTo}
use Rattle.msc_base.specs.Places.{IsLeast}
use Rattle.msc_base.specs.declared.place.Place.{Place}
use Rattle.msc_instances.specs.Instances.{instances}
use Rattle.msc_meaning.specs.Bodies.{Body}
use Rattle.msc_meaning.specs.Crossings.{ColumnsCross}
use Rattle.msc_meaning.specs.Levels.{IsWovenLevel}
use Rattle.msc_meaning.specs.Pieces.{Piece, statements_pieces}
use Rattle.msc_meaning.specs.Tables.{Woven, Basic, HighLevel}
use Rattle.msc_meaning.specs.WovenTables.{IsWovenContent}
use Rattle.msc_tree.specs.Charts.{Chart, Content}
use Rattle.msc_tree.specs.Charts as chart
use Rattle.msc_tree.specs.Graphs.{Graph}
use Rattle.msc_tree.specs.Statements.{Statement, statements}

-- ---- a chart is woven to one body

pub one_content : (names : List (List ℕ)) (x : Content) (v w : Woven) → IsWovenContent names x v → IsWovenContent names x w → v ≡ w
one_content names (chart.Basic held) (Basic a) (Basic b) h g = ap Basic (one_body names (statements_pieces names 0 (statements held)) a b h g)
one_content names (chart.Basic held) (Basic a) (HighLevel d) h g = absurd g
one_content names (chart.Basic held) (HighLevel d) w h g = absurd h
one_content names (chart.HighLevel drawn) (HighLevel d) (HighLevel e) h g = ap HighLevel (sym h ∙ g)
one_content names (chart.HighLevel drawn) (HighLevel d) (Basic b) h g = absurd g
one_content names (chart.HighLevel drawn) (Basic a) w h g = absurd h

pub same_body : (c : Chart) (a b : Body) → IsBodyOf c a → IsBodyOf c b → a ≡ b
same_body c a b h g = let same = one_content (instances c) c.content (Basic a) (Basic b) h g in cc

-- ---- a chart is a basic one, or a high-level chart

pub record IsBasic (c : Chart) : Type 0 where
  pub held : List Statement
  pub is : c.content ≡ chart.Basic held

pub record IsDrawn (c : Chart) : Type 0 where
  pub drawn : Graph
  pub is : c.content ≡ chart.HighLevel drawn

pub kind_of : (c : Chart) → IsBasic c ⊎ IsDrawn c
kind_of c = by c.content refl
  where
    by : (x : Content) → c.content ≡ x → IsBasic c ⊎ IsDrawn c
    by (chart.Basic held) e = inl (record { held = held; is = e })
    by (chart.HighLevel drawn) e = inr (record { drawn = drawn; is = e })

-- ---- high-level charts are woven to no body

pub drawn_no_body : (c : Chart) (g : IsDrawn c) (b : Body) → IsBodyOf c b → ⊥
drawn_no_body c g b h = subst (λ (x : Content). IsWovenContent (instances c) x (Basic b)) g.is h

pub drawn_uncrossed : (c : Chart) (g : IsDrawn c) → IsLeast (CrossesAt c) None
drawn_uncrossed c g = λ q h. subst (λ (x : Content). ContentCrosses (instances c) x q) g.is h

-- ---- basic charts

abbrev pub pieces_of : (c : Chart) → IsBasic c → List Piece
pieces_of c p = statements_pieces (instances c) 0 (statements p.held)

pub level_of : (c : Chart) (p : IsBasic c) (b : Body) → IsBodyOf c b → IsWovenLevel (instances c) (pieces_of c p) b
level_of c p b h = subst (λ (x : Content). IsWovenContent (instances c) x (Basic b)) p.is h

-- ---- its faults

crosses_at : (c : Chart) (p : IsBasic c) (q : Place) → ColumnsCross (instances c) (pieces_of c p) q → CrossesAt c q
crosses_at c p q h = subst (λ (x : Content). ContentCrosses (instances c) x q) (sym p.is) h

crosses_in : (c : Chart) (p : IsBasic c) (q : Place) → CrossesAt c q → ColumnsCross (instances c) (pieces_of c p) q
crosses_in c p q h = subst (λ (x : Content). ContentCrosses (instances c) x q) p.is h

alone_at : (c : Chart) (p : IsBasic c) (q : Place) → IsAloneIn (instances c) (pieces_of c p) q → IsAloneAt c q
alone_at c p q a = record { body = a.body; woven = subst (λ (x : Content). IsWovenContent (instances c) x (Basic a.body)) (sym p.is) a.woven; alone = a.alone }

alone_in : (c : Chart) (p : IsBasic c) (q : Place) → IsAloneAt c q → IsAloneIn (instances c) (pieces_of c p) q
alone_in c p q a = record { body = a.body; woven = level_of c p a.body a.woven; alone = a.alone }

pub crossed_of : (c : Chart) (place : Place) → IsWeaveFault c (fault.Crossed place) → IsLeast (CrossesAt c) (Some place)
crossed_of c place h =
    let p : IsBasic c = record { held = h.held; is = h.is } in
    least_same (ColumnsCross (instances c) (pieces_of c p)) (CrossesAt c) (Some place) (crosses_at c p) (crosses_in c p) h.fault_is

pub uncrossed_of : (c : Chart) (place : Place) → IsWeaveFault c (fault.Unmatched place) → IsLeast (CrossesAt c) None
uncrossed_of c place h = λ q x. h.fault_is.0 q (crosses_in c (record { held = h.held; is = h.is }) q x)

pub alone_of : (c : Chart) (place : Place) → IsWeaveFault c (fault.Unmatched place) → IsLeast (IsAloneAt c) (Some place)
alone_of c place h =
    let p : IsBasic c = record { held = h.held; is = h.is } in
    least_same (IsAloneIn (instances c) (pieces_of c p)) (IsAloneAt c) (Some place) (alone_at c p) (alone_in c p) h.fault_is.1

-- ---- where it is woven

pub woven_body : (c : Chart) (b : Body) → IsWovenTo c b → IsBodyOf c b
woven_body c b h = subst (λ (x : Content). IsWovenContent (instances c) x (Basic b)) (sym h.is) h.woven.woven

pub none_cross : (c : Chart) (b : Body) → IsWovenTo c b → IsLeast (CrossesAt c) None
none_cross c b h = λ q g. h.woven.uncrossed q (crosses_in c (record { held = h.held; is = h.is }) q g)

pub none_alone : (c : Chart) (b : Body) → IsWovenTo c b → IsLeast (IsAloneAt c) None
none_alone c b h = λ q a. h.woven.matched q (alone_in c (record { held = h.held; is = h.is }) q a)

-- the events of a chart that break a rule on names are those of its body
pub misnamed_least : (rule : EventNameRule) (c : Chart) (b : Body) (o : Option Place) → IsBodyOf c b → IsLeast (BreaksNameRule rule b) o → IsLeast (IsMisnamedAt rule c) o
misnamed_least rule c b o h least =
    least_same (BreaksNameRule rule b) (IsMisnamedAt rule c) o (λ p m. record { body = b; woven = h; misnamed = m })
    (λ p g. subst (λ (x : Body). BreaksNameRule rule x p) (same_body c g.body b g.woven h) g.misnamed) least
