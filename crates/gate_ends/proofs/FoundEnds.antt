-- What is found is exactly the inner events, and no more of them is found deeper.
use Rattle.std.specs.Prelude.{ℕ, zero, suc, ◌≤◌, Bool, true, false, List, [], ◌∷◌, ◌++◌, Option, None, Some, map}
use Rattle.std.proofs.Common.{◌≡◌, ◌∙◌, ◌⊎◌, refl, sym, subst, ap, inl, inr, arith}
use Rattle.std.proofs.lemmas.List.{map-append}
use Rattle.std.proofs.lemmas.Slice.Eq.{bytes_eq-Decides}
use Rattle.std.specs.Str.{bytes_eq}
use Rattle.msc_base.specs.declared.label.Pair.{Pair}
use Rattle.msc_base.specs.Orders.{Among, first, later}
use Rattle.msc_tree.specs.declared.event.Target.{Target}
use Rattle.msc_tree.specs.declared.event.Target.TheVariants.{Nobody, Env, Instance, Gate}
use Rattle.msc_tree.specs.declared.reference.InlineForm.{InlineForm}
use Rattle.msc_tree.specs.declared.reference.InlineForm.TheVariants as inline
use Rattle.msc_tree.specs.declared.reference.Join.{Join}
use Rattle.msc_tree.specs.declared.reference.JoinEnd.{JoinEnd}
use Rattle.msc_tree.specs.declared.reference.JoinEnd.TheVariants as join_end
use Rattle.msc_tree.specs.Expressions.{Expression, Empty, Chart, Alt, Par, Seq, Opt, Loop, Expressions, none, more}
use Rattle.msc_meaning.specs.Bodies.{EventNode, Body, level, WovenItems, no_items, item_and, item_list, WovenItem, Single, Coregion, Inline, Refer, Bodies, no_bodies, body_and, item_events, events}
use Rattle.msc_meaning.specs.Calls.{Call, calls, is_called}
use Rattle.msc_meaning.specs.InnerEvents.{charts_in, charts_in_all, InnerEvent, here, in_chart, GateEnd, IsInner, own, inside, passed, IsInnerOfSome, this, that, IsInnerOfExpression, of_chart, IsInnerOf, of_inline, of_reference, AreEnds, no_ends, end_and}
use Rattle.msc_meaning.specs.MeaningLaws.{HaveEnds}
use Rattle.msc_meaning.specs.Tables.{Table, body_at}
use Rattle.gate_ends.specs.EndLaws.{EndsAreFound}
use Rattle.gate_ends.specs.FoundEnds.{level_names, items_names, item_names, operands_names, AreAll, body_names, GoesTo, GateEvents, no_event, an_event, both, either, in_loop, listed, seen_in, is_gate, is_name, these_if, unless, event_inner, events_inner, beside, operand_beside, turned, expression_inner, choice_inner, parts_inner, joined_inner, joins_inner, level_inner, items_inner, item_inner, inline_inner, operands_inner, inner_of_item, inner_of, body_inner, inner_to, first_end, called_ends}

-- ---- lists

module _ {P : Type 0} where
  among_left : (a b : List P) (p : P) → Among p a → Among p (a ++ b)
  among_left (q ∷ a) b _ first = first
  among_left (q ∷ a) b p (later h) = later (among_left a b p h)
  among_left [] b p h = elim h [ ]

  among_right : (a b : List P) (p : P) → Among p b → Among p (a ++ b)
  among_right [] b p h = h
  among_right (q ∷ a) b p h = later (among_right a b p h)

  among_either : (a b : List P) (p : P) → Among p (a ++ b) → Among p a ⊎ Among p b
  among_either [] b p h = inr h
  among_either (q ∷ a) b _ first = inl first
  among_either (q ∷ a) b p (later h) = elim (among_either a b p h) [ inl l ↦ inl (later l) | inr r ↦ inr r ]

among_mapped : (f : InnerEvent → InnerEvent) (es : List InnerEvent) (e : InnerEvent) → Among e es → Among (f e) (map f es)
among_mapped f (x ∷ es) _ first = first
among_mapped f (x ∷ es) e (later h) = later (among_mapped f es e h)
among_mapped f [] e h = elim h [ ]

-- where one of a mapped list comes from
record ComesFrom (f : InnerEvent → InnerEvent) (es : List InnerEvent) (e : InnerEvent) : Type 0 where
  source : InnerEvent
  held : Among source es
  is : f source ≡ e

from_mapped : (f : InnerEvent → InnerEvent) (es : List InnerEvent) (e : InnerEvent) → Among e (map f es) → ComesFrom f es e
from_mapped f [] e h = elim h [ ]
from_mapped f (x ∷ es) _ first = record { source = x; held = first; is = refl }
from_mapped f (x ∷ es) e (later h) = let c = from_mapped f es e h in record { source = c.source; held = later c.held; is = c.is }

pub all_left : (P : List ℕ → Type 0) (a b : List (List ℕ)) → AreAll P (a ++ b) → AreAll P a
all_left P [] b h = tt
all_left P (x ∷ a) b (h, i) = (h, all_left P a b i)

pub all_right : (P : List ℕ → Type 0) (a b : List (List ℕ)) → AreAll P (a ++ b) → AreAll P b
all_right P [] b h = h
all_right P (x ∷ a) b (h, i) = all_right P a b i

pub all_one : (P : List ℕ → Type 0) (a : List (List ℕ)) (n : List ℕ) → AreAll P a → Among n a → P n
all_one P (x ∷ a) _ (h, i) first = h
all_one P (x ∷ a) n (h, i) (later k) = all_one P a n i k
all_one P [] n h k = elim k [ ]

-- ---- events put together, as lists

listed_beside : (x : WovenItem) (a b : GateEvents) → listed (beside x a b) ≡ listed a ++ listed b
listed_beside (Single n) a b = refl
listed_beside (Coregion ns) a b = refl
listed_beside (Inline inline.Alt part operands) a b = refl
listed_beside (Inline inline.Opt part operands) a b = refl
listed_beside (Inline inline.Par part operands) a b = refl
listed_beside (Inline inline.Loop part operands) a b = refl
listed_beside (Inline inline.Exc part operands) a b = refl
listed_beside (Refer part) a b = refl

listed_operand : (form : InlineForm) (a b : GateEvents) → listed (operand_beside form a b) ≡ listed a ++ listed b
listed_operand inline.Alt a b = refl
listed_operand inline.Opt a b = refl
listed_operand inline.Par a b = refl
listed_operand inline.Loop a b = refl
listed_operand inline.Exc a b = refl

listed_turned : (form : InlineForm) (a : GateEvents) → listed (turned form a) ≡ listed a
listed_turned inline.Alt a = refl
listed_turned inline.Opt a = refl
listed_turned inline.Par a = refl
listed_turned inline.Loop a = refl
listed_turned inline.Exc a = refl

pub listed_seen : (name : List ℕ) (a : GateEvents) → listed (seen_in name a) ≡ map (in_chart name) (listed a)
listed_seen name no_event = refl
listed_seen name (an_event e) = refl
listed_seen name (both a b) = ap (λ (l : List InnerEvent). l ++ listed (seen_in name b)) (listed_seen name a) ∙ ap (λ (l : List InnerEvent). map (in_chart name) (listed a) ++ l) (listed_seen name b) ∙ sym (map-append (in_chart name) (listed a) (listed b))
listed_seen name (either a b) = ap (λ (l : List InnerEvent). l ++ listed (seen_in name b)) (listed_seen name a) ∙ ap (λ (l : List InnerEvent). map (in_chart name) (listed a) ++ l) (listed_seen name b) ∙ sym (map-append (in_chart name) (listed a) (listed b))
listed_seen name (in_loop a) = listed_seen name a

module _ (e : InnerEvent) where
  module _ (a b c : GateEvents) (is : listed c ≡ listed a ++ listed b) where
    left_in : Among e (listed a) → Among e (listed c)
    left_in h = subst (λ (l : List InnerEvent). Among e l) (sym is) (among_left (listed a) (listed b) e h)

    right_in : Among e (listed b) → Among e (listed c)
    right_in h = subst (λ (l : List InnerEvent). Among e l) (sym is) (among_right (listed a) (listed b) e h)

    either_in : Among e (listed c) → Among e (listed a) ⊎ Among e (listed b)
    either_in h = among_either (listed a) (listed b) e (subst (λ (l : List InnerEvent). Among e l) is h)

  turned_in : (form : InlineForm) (a : GateEvents) → Among e (listed a) → Among e (listed (turned form a))
  turned_in form a h = subst (λ (l : List InnerEvent). Among e l) (sym (listed_turned form a)) h

  turned_from : (form : InlineForm) (a : GateEvents) → Among e (listed (turned form a)) → Among e (listed a)
  turned_from form a h = subst (λ (l : List InnerEvent). Among e l) (listed_turned form a) h

-- ---- tests

these_held : (b : Bool) (a : GateEvents) (e : InnerEvent) → b ≡ true → Among e (listed a) → Among e (listed (these_if b a))
these_held true a e h i = i
these_held false a e h i = absurd cc

these_hold : (b : Bool) (a : GateEvents) (e : InnerEvent) → Among e (listed (these_if b a)) → (b ≡ true) × Among e (listed a)
these_hold true a e h = (refl, h)
these_hold false a e h = elim h [ ]

unless_held : (b : Bool) (a : GateEvents) (e : InnerEvent) → b ≡ false → Among e (listed a) → Among e (listed (unless b a))
unless_held false a e h i = i
unless_held true a e h i = absurd cc

unless_hold : (b : Bool) (a : GateEvents) (e : InnerEvent) → Among e (listed (unless b a)) → (b ≡ false) × Among e (listed a)
unless_hold false a e h = (refl, h)
unless_hold true a e h = elim h [ ]

gate_held : (t : Target) (g : List ℕ) → t ≡ Env (Some g) → is_gate t g ≡ true
gate_held t g e = subst (λ (u : Target). is_gate u g ≡ true) (sym e) ((bytes_eq-Decides g g).1 refl)

gate_holds : (t : Target) (g : List ℕ) → is_gate t g ≡ true → t ≡ Env (Some g)
gate_holds (Env (Some h)) g e = ap (λ (n : List ℕ). Env (Some n)) ((bytes_eq-Decides h g).0 e)
gate_holds (Env None) g e = absurd cc
gate_holds Nobody g e = absurd cc
gate_holds (Instance far) g e = absurd cc
gate_holds (Gate name gate) g e = absurd cc

name_held : (o : Option (List ℕ)) (name : List ℕ) → o ≡ Some name → is_name o name ≡ true
name_held o name e = subst (λ (u : Option (List ℕ)). is_name u name ≡ true) (sym e) ((bytes_eq-Decides name name).1 refl)

name_holds : (o : Option (List ℕ)) (name : List ℕ) → is_name o name ≡ true → o ≡ Some name
name_holds (Some its) name e = ap (λ (n : List ℕ). Some n) ((bytes_eq-Decides its name).0 e)
name_holds None name e = absurd cc

-- ---- all that the meaning has

event_all : (n : EventNode) (g : List ℕ) → n.event.target ≡ Env (Some g) → Among (here n) (listed (event_inner n g))
event_all n g t = these_held (is_gate n.event.target g) (an_event (here n)) (here n) (gate_held n.event.target g t) first

events_all : (ns : List EventNode) (n : EventNode) (g : List ℕ) → Among n ns → n.event.target ≡ Env (Some g) → Among (here n) (listed (events_inner ns g))
events_all (m ∷ ns) _ g first t = among_left (listed (event_inner m g)) (listed (events_inner ns g)) (here m) (event_all m g t)
events_all (m ∷ ns) n g (later i) t = among_right (listed (event_inner m g)) (listed (events_inner ns g)) (here n) (events_all ns n g i t)
events_all [] n g i t = elim i [ ]

module _ (chart_inner : List ℕ → List ℕ → GateEvents) where
  -- of an item's own events
  item_own : (cs : List Call) (x : WovenItem) (n : EventNode) (g : List ℕ) → Among n (item_events x) → n.event.target ≡ Env (Some g) → Among (here n) (listed (item_inner chart_inner cs x g))
  item_own cs (Single m) _ g first t = event_all m g t
  item_own cs (Single m) n g (later i) t = elim i [ ]
  item_own cs (Coregion ns) n g i t = events_all ns n g i t
  item_own cs (Inline form part operands) n g i t = elim i [ ]
  item_own cs (Refer part) n g i t = elim i [ ]

  own_all : (cs : List Call) (xs : WovenItems) (n : EventNode) (g : List ℕ) → Among n (events xs) → n.event.target ≡ Env (Some g) → Among (here n) (listed (items_inner chart_inner cs xs g))
  own_all cs no_items n g i t = elim i [ ]
  own_all cs (item_and x xs) n g i t =
      let a = item_inner chart_inner cs x g in
      let b = items_inner chart_inner cs xs g in
      elim (among_either (item_events x) (events xs) n i) [
        | inl l ↦ left_in (here n) a b (beside x a b) (listed_beside x a b) (item_own cs x n g l t)
        | inr r ↦ right_in (here n) a b (beside x a b) (listed_beside x a b) (own_all cs xs n g r t)
      ]

  of_item : (cs : List Call) (xs : WovenItems) (x : WovenItem) (g : List ℕ) (e : InnerEvent) → Among x (item_list xs) → Among e (listed (item_inner chart_inner cs x g)) → Among e (listed (items_inner chart_inner cs xs g))
  of_item cs no_items x g e i h = elim i [ ]
  of_item cs (item_and y xs) _ g e first h =
      let a = item_inner chart_inner cs y g in
      let b = items_inner chart_inner cs xs g in left_in e a b (beside y a b) (listed_beside y a b) h
  of_item cs (item_and y xs) x g e (later i) h =
      let a = item_inner chart_inner cs y g in
      let b = items_inner chart_inner cs xs g in right_in e a b (beside y a b) (listed_beside y a b) (of_item cs xs x g e i h)

  of_named_item : (xs : WovenItems) (x : WovenItem) (name g : List ℕ) (e : InnerEvent) → Among x (item_list xs) → Among e (listed (inner_of_item chart_inner x name g)) → Among e (listed (inner_of chart_inner xs name g))
  of_named_item no_items x name g e i h = elim i [ ]
  of_named_item (item_and y xs) _ name g e first h = among_left (listed (inner_of_item chart_inner y name g)) (listed (inner_of chart_inner xs name g)) e h
  of_named_item (item_and y xs) x name g e (later i) h = among_right (listed (inner_of_item chart_inner y name g)) (listed (inner_of chart_inner xs name g)) e (of_named_item xs x name g e i h)

  joined_all : (expr : Expression) (gate : List ℕ) (to : JoinEnd) (g : List ℕ) (e : InnerEvent) → to ≡ join_end.Env g → Among e (listed (expression_inner chart_inner expr gate)) → Among e (listed (joined_inner chart_inner expr gate to g))
  joined_all expr gate to g e t h =
      subst (λ (u : JoinEnd). Among e (listed (joined_inner chart_inner expr gate u g))) (sym t) (these_held (bytes_eq g g) (expression_inner chart_inner expr gate) e ((bytes_eq-Decides g g).1 refl) h)

  joins_all : (expr : Expression) (js : List Join) (j : Join) (g : List ℕ) (e : InnerEvent) → Among j js → j.to ≡ join_end.Env g → Among e (listed (expression_inner chart_inner expr j.gate)) → Among e (listed (joins_inner chart_inner expr js g))
  joins_all expr (k ∷ js) _ g e first t h = among_left (listed (joined_inner chart_inner expr k.gate k.to g)) (listed (joins_inner chart_inner expr js g)) e (joined_all expr k.gate k.to g e t h)
  joins_all expr (k ∷ js) j g e (later i) t h = among_right (listed (joined_inner chart_inner expr k.gate k.to g)) (listed (joins_inner chart_inner expr js g)) e (joins_all expr js j g e i t h)
  joins_all expr [] j g e i t h = elim i [ ]

  mutual
    chart_all : (expr : Expression) (name g : List ℕ) (e : InnerEvent) → Among name (charts_in expr) → Among e (listed (chart_inner name g)) → Among e (listed (expression_inner chart_inner expr g))
    chart_all Empty name g e i h = elim i [ ]
    chart_all (Chart _) name g e first h = h
    chart_all (Chart n) name g e (later i) h = elim i [ ]
    chart_all (Alt parts) name g e i h = choice_all parts name g e i h
    chart_all (Par parts) name g e i h = parts_all parts name g e i h
    chart_all (Seq parts) name g e i h = parts_all parts name g e i h
    chart_all (Opt part) name g e i h = chart_all part name g e i h
    chart_all (Loop lower upper part) name g e i h = chart_all part name g e i h

    choice_all : (parts : Expressions) (name g : List ℕ) (e : InnerEvent) → Among name (charts_in_all parts) → Among e (listed (chart_inner name g)) → Among e (listed (choice_inner chart_inner parts g))
    choice_all none name g e i h = elim i [ ]
    choice_all (more x xs) name g e i h = elim (among_either (charts_in x) (charts_in_all xs) name i) [
      | inl l ↦ among_left (listed (expression_inner chart_inner x g)) (listed (choice_inner chart_inner xs g)) e (chart_all x name g e l h)
      | inr r ↦ among_right (listed (expression_inner chart_inner x g)) (listed (choice_inner chart_inner xs g)) e (choice_all xs name g e r h)
    ]

    parts_all : (parts : Expressions) (name g : List ℕ) (e : InnerEvent) → Among name (charts_in_all parts) → Among e (listed (chart_inner name g)) → Among e (listed (parts_inner chart_inner parts g))
    parts_all none name g e i h = elim i [ ]
    parts_all (more x xs) name g e i h = elim (among_either (charts_in x) (charts_in_all xs) name i) [
      | inl l ↦ among_left (listed (expression_inner chart_inner x g)) (listed (parts_inner chart_inner xs g)) e (chart_all x name g e l h)
      | inr r ↦ among_right (listed (expression_inner chart_inner x g)) (listed (parts_inner chart_inner xs g)) e (parts_all xs name g e r h)
    ]

-- the names of an item of a level
pub names_of_item : (P : List ℕ → Type 0) (xs : WovenItems) (x : WovenItem) → Among x (item_list xs) → AreAll P (items_names xs) → AreAll P (item_names x)
names_of_item P no_items x i h = elim i [ ]
names_of_item P (item_and y xs) _ first h = all_left P (item_names y) (items_names xs) h
names_of_item P (item_and y xs) x (later i) h = names_of_item P xs x i (all_right P (item_names y) (items_names xs) h)

module _ (table : Table) where
  abbrev Goes : ℕ → List ℕ → Type 0
  Goes k = GoesTo table k

  mutual
    level_all : (k : ℕ) (b : Body) (g : List ℕ) (e : InnerEvent) → AreAll (Goes k) (level_names b) → IsInner table b g e → Among e (listed (level_inner (inner_to table k) b g))
    level_all k (level cover held pairs) g _ all (own {n = n} i t) = own_all (inner_to table k) (calls held) held n g i t
    level_all k (level cover held pairs) g e all (inside {form = form} {part = part} {operands = operands} i c h) =
        of_item (inner_to table k) (calls held) held (Inline form part operands) g e i
        (unless_held (is_called (calls held) part.name g) (inline_inner (inner_to table k) form operands g) e c
        (turned_in e form (operands_inner (inner_to table k) form operands g) (operands_all k form operands g e (names_of_item (Goes k) held (Inline form part operands) i all) h)))
    level_all k (level cover held pairs) g e all (passed {part = part} {j = j} i m t h) =
        of_item (inner_to table k) (calls held) held (Refer part) g e i
        (joins_all (inner_to table k) part.expression part.joins j g e m t (expression_all k part.expression j.gate e (names_of_item (Goes k) held (Refer part) i all) h))

    operands_all : (k : ℕ) (form : InlineForm) (bs : Bodies) (g : List ℕ) (e : InnerEvent) → AreAll (Goes k) (operands_names bs) → IsInnerOfSome table bs g e → Among e (listed (operands_inner (inner_to table k) form bs g))
    operands_all k form (body_and b bs) g e all (this h) =
        let a = level_inner (inner_to table k) b g in
        let c = operands_inner (inner_to table k) form bs g in
        left_in e a c (operand_beside form a c) (listed_operand form a c) (level_all k b g e (all_left (Goes k) (level_names b) (operands_names bs) all) h)
    operands_all k form (body_and b bs) g e all (that h) =
        let a = level_inner (inner_to table k) b g in
        let c = operands_inner (inner_to table k) form bs g in
        right_in e a c (operand_beside form a c) (listed_operand form a c) (operands_all k form bs g e (all_right (Goes k) (level_names b) (operands_names bs) all) h)
    operands_all k form no_bodies g e all h = elim h [ ]

    expression_all : (k : ℕ) (expr : Expression) (g : List ℕ) (e : InnerEvent) → AreAll (Goes k) (charts_in expr) → IsInnerOfExpression table expr g e → Among e (listed (expression_inner (inner_to table k) expr g))
    expression_all zero expr g _ all (of_chart {name = name} i b h) = absurd (all_one (Goes zero) (charts_in expr) name all i)
    expression_all (suc k) expr g _ all (of_chart {name = name} {body = body} {e = e} i b h) =
        chart_all (inner_to table (suc k)) expr name g (in_chart name e) i
        (subst (λ (o : Option Body). Among (in_chart name e) (listed (body_inner (inner_to table k) name o g))) (sym b)
        (subst (λ (l : List InnerEvent). Among (in_chart name e) l) (sym (listed_seen name (level_inner (inner_to table k) body g)))
        (among_mapped (in_chart name) (listed (level_inner (inner_to table k) body g)) e
        (level_all k body g e (subst (λ (o : Option Body). AreAll (Goes k) (body_names o)) b (all_one (Goes (suc k)) (charts_in expr) name all i)) h))))

  of_all : (k : ℕ) (held : WovenItems) (name g : List ℕ) (e : InnerEvent) → AreAll (Goes k) (items_names held) → IsInnerOf table held name g e → Among e (listed (inner_of (inner_to table k) held name g))
  of_all k held name g e all (of_inline {form = form} {part = part} {operands = operands} i t h) =
      of_named_item (inner_to table k) held (Inline form part operands) name g e i
      (these_held (is_name part.name name) (inline_inner (inner_to table k) form operands g) e (name_held part.name name t)
      (turned_in e form (operands_inner (inner_to table k) form operands g) (operands_all k form operands g e (names_of_item (Goes k) held (Inline form part operands) i all) h)))
  of_all k held name g e all (of_reference {part = part} i t h) =
      of_named_item (inner_to table k) held (Refer part) name g e i
      (these_held (is_name part.name name) (expression_inner (inner_to table k) part.expression g) e (name_held part.name name t) (expression_all k part.expression g e (names_of_item (Goes k) held (Refer part) i all) h))

-- ---- and no others

-- an event that names the gate
record IsOwn (ns : List EventNode) (g : List ℕ) (e : InnerEvent) : Type 0 where
  node : EventNode
  held : Among node ns
  to : node.event.target ≡ Env (Some g)
  is : here node ≡ e

one_held : (n : EventNode) (e : InnerEvent) → Among e (here n ∷ []) → here n ≡ e
one_held n _ first = refl
one_held n e (later i) = elim i [ ]

events_only : (ns : List EventNode) (g : List ℕ) (e : InnerEvent) → Among e (listed (events_inner ns g)) → IsOwn ns g e
events_only [] g e h = elim h [ ]
events_only (n ∷ ns) g e h = elim (among_either (listed (event_inner n g)) (listed (events_inner ns g)) e h) [
  | inl l ↦ let (b, i) = these_hold (is_gate n.event.target g) (an_event (here n)) e l in record { node = n; held = first; to = gate_holds n.event.target g b; is = one_held n e i }
  | inr r ↦ let k = events_only ns g e r in record { node = k.node; held = later k.held; to = k.to; is = k.is }
]

module _ (chart_inner : List ℕ → List ℕ → GateEvents) where
  -- one of the charts of an expression has it
  record IsOfOne (names : List (List ℕ)) (g : List ℕ) (e : InnerEvent) : Type 0 where
    name : List ℕ
    among : Among name names
    held : Among e (listed (chart_inner name g))

  one_left : (a b : List (List ℕ)) (g : List ℕ) (e : InnerEvent) → IsOfOne a g e → IsOfOne (a ++ b) g e
  one_left a b g e h = record { name = h.name; among = among_left a b h.name h.among; held = h.held }

  one_right : (a b : List (List ℕ)) (g : List ℕ) (e : InnerEvent) → IsOfOne b g e → IsOfOne (a ++ b) g e
  one_right a b g e h = record { name = h.name; among = among_right a b h.name h.among; held = h.held }

  mutual
    chart_only : (expr : Expression) (g : List ℕ) (e : InnerEvent) → Among e (listed (expression_inner chart_inner expr g)) → IsOfOne (charts_in expr) g e
    chart_only Empty g e h = elim h [ ]
    chart_only (Chart name) g e h = record { name = name; among = first; held = h }
    chart_only (Alt parts) g e h = choice_only parts g e h
    chart_only (Par parts) g e h = parts_only parts g e h
    chart_only (Seq parts) g e h = parts_only parts g e h
    chart_only (Opt part) g e h = chart_only part g e h
    chart_only (Loop lower upper part) g e h = chart_only part g e h

    choice_only : (parts : Expressions) (g : List ℕ) (e : InnerEvent) → Among e (listed (choice_inner chart_inner parts g)) → IsOfOne (charts_in_all parts) g e
    choice_only none g e h = elim h [ ]
    choice_only (more x xs) g e h = elim (among_either (listed (expression_inner chart_inner x g)) (listed (choice_inner chart_inner xs g)) e h) [
      | inl l ↦ one_left (charts_in x) (charts_in_all xs) g e (chart_only x g e l)
      | inr r ↦ one_right (charts_in x) (charts_in_all xs) g e (choice_only xs g e r)
    ]

    parts_only : (parts : Expressions) (g : List ℕ) (e : InnerEvent) → Among e (listed (parts_inner chart_inner parts g)) → IsOfOne (charts_in_all parts) g e
    parts_only none g e h = elim h [ ]
    parts_only (more x xs) g e h = elim (among_either (listed (expression_inner chart_inner x g)) (listed (parts_inner chart_inner xs g)) e h) [
      | inl l ↦ one_left (charts_in x) (charts_in_all xs) g e (chart_only x g e l)
      | inr r ↦ one_right (charts_in x) (charts_in_all xs) g e (parts_only xs g e r)
    ]

module _ (table : Table) (chart_inner : List ℕ → List ℕ → GateEvents) where
  -- an inner event of the body of the chart of that name
  record IsOfChart (name g : List ℕ) (e : InnerEvent) : Type 0 where
    body : Body
    source : InnerEvent
    at : body_at table name ≡ Some body
    inner : IsInner table body g source
    is : in_chart name source ≡ e

  module _ (known : (name g : List ℕ) (e : InnerEvent) → Among e (listed (chart_inner name g)) → IsOfChart name g e) where
    expression_only : (expr : Expression) (g : List ℕ) (e : InnerEvent) → Among e (listed (expression_inner chart_inner expr g)) → IsInnerOfExpression table expr g e
    expression_only expr g e h =
        let one = chart_only chart_inner expr g e h in
        let c = known one.name g e one.held in subst (λ (d : InnerEvent). IsInnerOfExpression table expr g d) c.is (of_chart one.among c.at c.inner)

    -- a join that leads there
    record IsJoined (expr : Expression) (js : List Join) (g : List ℕ) (e : InnerEvent) : Type 0 where
      join : Join
      held : Among join js
      to : join.to ≡ join_end.Env g
      inner : IsInnerOfExpression table expr join.gate e

    joined_only : (expr : Expression) (gate : List ℕ) (to : JoinEnd) (g : List ℕ) (e : InnerEvent) → Among e (listed (joined_inner chart_inner expr gate to g)) → (to ≡ join_end.Env g) × IsInnerOfExpression table expr gate e
    joined_only expr gate (join_end.Env to) g e h = let (b, i) = these_hold (bytes_eq to g) (expression_inner chart_inner expr gate) e h in (ap (λ (n : List ℕ). join_end.Env n) ((bytes_eq-Decides to g).0 b), expression_only expr gate e i)
    joined_only expr gate (join_end.Reference name to) g e h = elim h [ ]

    joins_only : (expr : Expression) (js : List Join) (g : List ℕ) (e : InnerEvent) → Among e (listed (joins_inner chart_inner expr js g)) → IsJoined expr js g e
    joins_only expr [] g e h = elim h [ ]
    joins_only expr (j ∷ js) g e h = elim (among_either (listed (joined_inner chart_inner expr j.gate j.to g)) (listed (joins_inner chart_inner expr js g)) e h) [
      | inl l ↦ let (t, i) = joined_only expr j.gate j.to g e l in record { join = j; held = first; to = t; inner = i }
      | inr r ↦ let k = joins_only expr js g e r in record { join = k.join; held = later k.held; to = k.to; inner = k.inner }
    ]

    mutual
      level_only : (b : Body) (g : List ℕ) (e : InnerEvent) → Among e (listed (level_inner chart_inner b g)) → IsInner table b g e
      level_only (level cover held pairs) g e h = items_only cover held pairs held g e (λ y i. i) (λ n i. i) h

      -- items of a level
      items_only : (cover : List (List ℕ)) (held : WovenItems) (pairs : List Pair) (xs : WovenItems) (g : List ℕ) (e : InnerEvent) → ((y : WovenItem) → Among y (item_list xs) → Among y (item_list held)) → ((n : EventNode) → Among n (events xs) → Among n (events held))
          → Among e (listed (items_inner chart_inner (calls held) xs g)) → IsInner table (level cover held pairs) g e
      items_only cover held pairs no_items g e up ups h = elim h [ ]
      items_only cover held pairs (item_and x xs) g e up ups h =
          let a = item_inner chart_inner (calls held) x g in
          let b = items_inner chart_inner (calls held) xs g in
          elim (either_in e a b (beside x a b) (listed_beside x a b) h) [
            | inl l ↦ item_only cover held pairs x g e (up x first) (λ n i. ups n (among_left (item_events x) (events xs) n i)) l
            | inr r ↦ items_only cover held pairs xs g e (λ y i. up y (later i)) (λ n i. ups n (among_right (item_events x) (events xs) n i)) r
          ]

      item_only : (cover : List (List ℕ)) (held : WovenItems) (pairs : List Pair) (x : WovenItem) (g : List ℕ) (e : InnerEvent) → Among x (item_list held) → ((n : EventNode) → Among n (item_events x) → Among n (events held))
          → Among e (listed (item_inner chart_inner (calls held) x g)) → IsInner table (level cover held pairs) g e
      item_only cover held pairs (Single n) g e i ups h =
          let (b, j) = these_hold (is_gate n.event.target g) (an_event (here n)) e h in
          subst (λ (d : InnerEvent). IsInner table (level cover held pairs) g d) (one_held n e j) (own (ups n first) (gate_holds n.event.target g b))
      item_only cover held pairs (Coregion ns) g e i ups h =
          let k = events_only ns g e h in
          subst (λ (d : InnerEvent). IsInner table (level cover held pairs) g d) k.is (own (ups k.node k.held) k.to)
      item_only cover held pairs (Inline form part operands) g e i ups h =
          let (c, j) = unless_hold (is_called (calls held) part.name g) (inline_inner chart_inner form operands g) e h in
          inside i c (operands_only form operands g e (turned_from e form (operands_inner chart_inner form operands g) j))
      item_only cover held pairs (Refer part) g e i ups h =
          let k = joins_only part.expression part.joins g e h in passed i k.held k.to k.inner

      operands_only : (form : InlineForm) (bs : Bodies) (g : List ℕ) (e : InnerEvent) → Among e (listed (operands_inner chart_inner form bs g)) → IsInnerOfSome table bs g e
      operands_only form no_bodies g e h = elim h [ ]
      operands_only form (body_and b bs) g e h =
          let a = level_inner chart_inner b g in
          let c = operands_inner chart_inner form bs g in
          elim (either_in e a c (operand_beside form a c) (listed_operand form a c) h) [
            | inl l ↦ this (level_only b g e l)
            | inr r ↦ that (operands_only form bs g e r)
          ]

    of_only : (held : WovenItems) (xs : WovenItems) (name g : List ℕ) (e : InnerEvent) → ((y : WovenItem) → Among y (item_list xs) → Among y (item_list held)) → Among e (listed (inner_of chart_inner xs name g)) → IsInnerOf table held name g e
    of_only held no_items name g e up h = elim h [ ]
    of_only held (item_and x xs) name g e up h = elim (among_either (listed (inner_of_item chart_inner x name g)) (listed (inner_of chart_inner xs name g)) e h) [
      | inl l ↦ one x (up x first) l
      | inr r ↦ of_only held xs name g e (λ y i. up y (later i)) r
    ]
      where
        one : (x : WovenItem) → Among x (item_list held) → Among e (listed (inner_of_item chart_inner x name g)) → IsInnerOf table held name g e
        one (Single n) i l = elim l [ ]
        one (Coregion ns) i l = elim l [ ]
        one (Inline form part operands) i l =
            let (b, j) = these_hold (is_name part.name name) (inline_inner chart_inner form operands g) e l in
            of_inline i (name_holds part.name name b) (operands_only form operands g e (turned_from e form (operands_inner chart_inner form operands g) j))
        one (Refer part) i l = let (b, j) = these_hold (is_name part.name name) (expression_inner chart_inner part.expression g) e l in of_reference i (name_holds part.name name b) (expression_only part.expression g e j)

    of_body : (name : List ℕ) (o : Option Body) (g : List ℕ) (e : InnerEvent) → body_at table name ≡ o → Among e (listed (body_inner chart_inner name o g)) → IsOfChart name g e
    of_body name None g e t h = elim h [ ]
    of_body name (Some b) g e t h =
        let c = from_mapped (in_chart name) (listed (level_inner chart_inner b g)) e (subst (λ (l : List InnerEvent). Among e l) (listed_seen name (level_inner chart_inner b g)) h) in
        record { body = b; source = c.source; at = t; inner = level_only b g c.source c.held; is = c.is }

known_to : (table : Table) (k : ℕ) (name g : List ℕ) (e : InnerEvent) → Among e (listed (inner_to table k name g)) → IsOfChart table (inner_to table k) name g e
known_to table zero name g e h = elim h [ ]
known_to table (suc k) name g e h = let c = of_body table (inner_to table k) (known_to table k) name (body_at table name) g e refl h in record { body = c.body; source = c.source; at = c.at; inner = c.inner; is = c.is }

-- ---- deeper

-- by these and by those, where both agree on the charts that are named
module _ (these those : List ℕ → List ℕ → GateEvents) where
  abbrev Agree : List ℕ → Type 0
  Agree name = (g : List ℕ) → these name g ≡ those name g

  mutual
    expression_same : (expr : Expression) (g : List ℕ) → AreAll Agree (charts_in expr) → expression_inner these expr g ≡ expression_inner those expr g
    expression_same Empty g h = refl
    expression_same (Chart name) g h = h.0 g
    expression_same (Alt parts) g h = choice_same parts g h
    expression_same (Par parts) g h = parts_same parts g h
    expression_same (Seq parts) g h = parts_same parts g h
    expression_same (Opt part) g h = expression_same part g h
    expression_same (Loop lower upper part) g h = ap in_loop (expression_same part g h)

    choice_same : (parts : Expressions) (g : List ℕ) → AreAll Agree (charts_in_all parts) → choice_inner these parts g ≡ choice_inner those parts g
    choice_same none g h = refl
    choice_same (more x xs) g h =
        let a = expression_same x g (all_left Agree (charts_in x) (charts_in_all xs) h) in
        let b = choice_same xs g (all_right Agree (charts_in x) (charts_in_all xs) h) in cc

    parts_same : (parts : Expressions) (g : List ℕ) → AreAll Agree (charts_in_all parts) → parts_inner these parts g ≡ parts_inner those parts g
    parts_same none g h = refl
    parts_same (more x xs) g h =
        let a = expression_same x g (all_left Agree (charts_in x) (charts_in_all xs) h) in
        let b = parts_same xs g (all_right Agree (charts_in x) (charts_in_all xs) h) in cc

  joined_same : (expr : Expression) (gate : List ℕ) (to : JoinEnd) (g : List ℕ) → AreAll Agree (charts_in expr) → joined_inner these expr gate to g ≡ joined_inner those expr gate to g
  joined_same expr gate (join_end.Env to) g h = ap (these_if (bytes_eq to g)) (expression_same expr gate h)
  joined_same expr gate (join_end.Reference name to) g h = refl

  joins_same : (expr : Expression) (js : List Join) (g : List ℕ) → AreAll Agree (charts_in expr) → joins_inner these expr js g ≡ joins_inner those expr js g
  joins_same expr [] g h = refl
  joins_same expr (j ∷ js) g h =
      let a = joined_same expr j.gate j.to g h in
      let b = joins_same expr js g h in cc

  mutual
    level_same : (b : Body) (g : List ℕ) → AreAll Agree (level_names b) → level_inner these b g ≡ level_inner those b g
    level_same (level cover held pairs) g h = items_same (calls held) held g h

    items_same : (cs : List Call) (xs : WovenItems) (g : List ℕ) → AreAll Agree (items_names xs) → items_inner these cs xs g ≡ items_inner those cs xs g
    items_same cs no_items g h = refl
    items_same cs (item_and x xs) g h =
        ap (λ (a : GateEvents). beside x a (items_inner these cs xs g)) (item_same cs x g (all_left Agree (item_names x) (items_names xs) h))
        ∙ ap (beside x (item_inner those cs x g)) (items_same cs xs g (all_right Agree (item_names x) (items_names xs) h))

    item_same : (cs : List Call) (x : WovenItem) (g : List ℕ) → AreAll Agree (item_names x) → item_inner these cs x g ≡ item_inner those cs x g
    item_same cs (Single n) g h = refl
    item_same cs (Coregion ns) g h = refl
    item_same cs (Inline form part operands) g h = ap (λ (a : GateEvents). unless (is_called cs part.name g) (turned form a)) (operands_same form operands g h)
    item_same cs (Refer part) g h = joins_same part.expression part.joins g h

    operands_same : (form : InlineForm) (bs : Bodies) (g : List ℕ) → AreAll Agree (operands_names bs) → operands_inner these form bs g ≡ operands_inner those form bs g
    operands_same form no_bodies g h = refl
    operands_same form (body_and b bs) g h =
        ap (λ (a : GateEvents). operand_beside form a (operands_inner these form bs g)) (level_same b g (all_left Agree (level_names b) (operands_names bs) h))
        ∙ ap (operand_beside form (level_inner those b g)) (operands_same form bs g (all_right Agree (level_names b) (operands_names bs) h))

  body_same : (name : List ℕ) (o : Option Body) (g : List ℕ) → AreAll Agree (body_names o) → body_inner these name o g ≡ body_inner those name o g
  body_same name None g h = refl
  body_same name (Some b) g h = ap (seen_in name) (level_same b g h)

pub all_weaker : (P Q : List ℕ → Type 0) (ns : List (List ℕ)) → ((n : List ℕ) → P n → Q n) → AreAll P ns → AreAll Q ns
all_weaker P Q [] f h = tt
all_weaker P Q (n ∷ ns) f (h, i) = (f n h, all_weaker P Q ns f i)

pub same_to : (table : Table) (j k : ℕ) (name g : List ℕ) → j ≤ k → GoesTo table j name → inner_to table k name g ≡ inner_to table j name g
same_to table zero k name g low h = absurd h
same_to table (suc j) zero name g low h = absurd (omega arith)
same_to table (suc j) (suc k) name g low h =
    body_same (inner_to table k) (inner_to table j) name (body_at table name) g
    (all_weaker (GoesTo table j) (Agree (inner_to table k) (inner_to table j)) (body_names (body_at table name)) (λ n i l. same_to table j k n l (omega arith) i) h)

-- ---- ends

module _ (table : Table) (k : ℕ) (held : WovenItems) (all : AreAll (GoesTo table k) (items_names held)) where
  -- a list with an inner event begins with one
  one_end : (c : Call) (cs : List Call) (ends : List GateEnd) (es : List InnerEvent) (e : InnerEvent) → Among e es → ((d : InnerEvent) → Among d es → IsInnerOf table held c.name c.gate d) → AreEnds table held cs ends
      → AreEnds table held (c ∷ cs) (first_end c es ++ ends)
  one_end c cs ends [] e h only are = elim h [ ]
  one_end c cs ends (d ∷ es) e h only are = end_and d (only d first) are

  ends_are : (cs : List Call) → HaveEnds table held cs → AreEnds table held cs (called_ends (inner_to table k) held cs)
  ends_are [] have = no_ends
  ends_are (c ∷ cs) have =
      let (e, i) = have c first in
      one_end c cs (called_ends (inner_to table k) held cs) (listed (inner_of (inner_to table k) held c.name c.gate)) e (of_all table k held c.name c.gate e all i)
      (λ d j. of_only table (inner_to table k) (known_to table k) held held c.name c.gate d (λ y l. l) j) (ends_are cs (λ d j. have d (later j)))

pub ends_are_found : EndsAreFound
ends_are_found = record {
  only = λ table k held name g e h. of_only table (inner_to table k) (known_to table k) held held name g e (λ y l. l) h;
  all = λ table k held name g e all h. of_all table k held name g e all h;
  ends = λ table k held all have. ends_are table k held all (calls held) have;
  same = λ table j k name g low h. same_to table j k name g low h;
}
