-- The ends of a level's called gates are those of the table.
use Rattle.std.specs.List.{list_any}
use Rattle.std.specs.Prelude.{◌≡◌, ◌&&◌, ◌||◌, ℕ, Bool, true, false, List, [], ◌∷◌, ◌++◌, Option, None, Some, if◌then◌else◌, option_map}
use Rattle.std.specs.Str.{bytes_eq}
use Rattle.std.proofs.Common.{◌∙◌, refl, ap}
use Rattle.std.proofs.lemmas.Slice.Eq.{bytes_eq-Decides}
use Rattle.msc_tree.specs.Expressions.{Expression}
use Rattle.msc_meaning.specs.Bodies.{WovenItems}
use Rattle.msc_meaning.specs.Calls.{Call, calls, is_call_of}
use Rattle.msc_meaning.specs.FarEnds.{end_at}
use Rattle.msc_meaning.specs.InnerEvents.{GateEnd, InnerEvent, charts_in}
use Rattle.msc_meaning.specs.Tables.{Table}
use Rattle.gate_ends.specs.FoundEnds.{AreAll, GateEvents, called_ends, ends_to, expression_inner, first_end, inner_of, inner_to, items_names, listed}
use Rattle.gate_tables.specs.CalledEnds.{end_list, end_of, ends_by}
use Rattle.gate_tables.specs.ChartGates.{AreGatesTo}
use Rattle.gate_tables.specs.GateFacts.{Facts, facts_by, facts_of}
use Rattle.gate_tables.specs.KeptMaps.{kept_of}
use Rattle.gate_tables.specs.KnownFacts.{expression_known, known_of}
use Rattle.gate_tables.specs.declared.tables.GateTables.{GateTables}
use Rattle.gate_tables.proofs.KnownLaws.{IsKnown, expression_is, of_items_is}

both_hold : (a b : Bool) → (a && b) ≡ true → (a ≡ true) × (b ≡ true)
both_hold true b h = (refl, h)
both_hold false b h = absurd cc

-- of a call of the gate, and of another
of_call : (c : Call) (o : Option Facts) (es : List GateEnd) (name gate : List ℕ) (b : Bool) → c.name ≡ name → c.gate ≡ gate → is_call_of name gate c ≡ true → end_at es name gate ≡ (if b then option_map (end_of name gate) o else None)
    → end_at (end_list c o ++ es) name gate ≡ option_map (end_of name gate) o
of_call c None es name gate true p q e more = more
of_call c None es name gate false p q e more = more
of_call c (Some f) es name gate b p q e more = ap (λ (t : Bool). if t then Some (end_of c.name c.gate f) else end_at es name gate) e ∙ ap (λ (m : List ℕ). Some (end_of m c.gate f)) p ∙ ap (λ (m : List ℕ). Some (end_of name m f)) q

of_other : (c : Call) (o : Option Facts) (es : List GateEnd) (name gate : List ℕ) → is_call_of name gate c ≡ false → end_at (end_list c o ++ es) name gate ≡ end_at es name gate
of_other c None es name gate e = refl
of_other c (Some f) es name gate e = ap (λ (t : Bool). if t then Some (end_of c.name c.gate f) else end_at es name gate) e

-- the end of a called gate is by what is known of it
pub end_found : (at : List ℕ → List ℕ → Option Facts) (cs : List Call) (name gate : List ℕ) → end_at (ends_by at cs) name gate ≡ (if list_any (is_call_of name gate) cs then option_map (end_of name gate) (at name gate) else None)
end_found at [] name gate = refl
end_found at (c ∷ cs) name gate = by (is_call_of name gate c) refl (end_found at cs name gate)
  where
    by : (b : Bool) → is_call_of name gate c ≡ b → end_at (ends_by at cs) name gate ≡ (if list_any (is_call_of name gate) cs then option_map (end_of name gate) (at name gate) else None)
        → end_at (end_list c (at c.name c.gate) ++ ends_by at cs) name gate ≡ (if b || list_any (is_call_of name gate) cs then option_map (end_of name gate) (at name gate) else None)
    by true e more =
        let (p, q) = both_hold (bytes_eq c.name name) (bytes_eq c.gate gate) e in
        let n : c.name ≡ name = (bytes_eq-Decides c.name name).0 p in
        let g : c.gate ≡ gate = (bytes_eq-Decides c.gate gate).0 q in
        ap (λ (o : Option Facts). end_at (end_list c o ++ ends_by at cs) name gate) (ap (λ (m : List ℕ). at m c.gate) n ∙ ap (at name) g)
        ∙ of_call c (at name gate) (ends_by at cs) name gate (list_any (is_call_of name gate) cs) n g e more
    by false e more = of_other c (at c.name c.gate) (ends_by at cs) name gate e ∙ more

pub ends_same : (at on : List ℕ → List ℕ → Option Facts) (cs : List Call) → ((name gate : List ℕ) → at name gate ≡ on name gate) → ends_by at cs ≡ ends_by on cs
ends_same at on [] same = refl
ends_same at on (c ∷ cs) same = ap (λ (o : Option Facts). end_list c o ++ ends_by at cs) (same c.name c.gate) ∙ ap (λ (es : List GateEnd). end_list c (on c.name c.gate) ++ es) (ends_same at on cs same)

first_is : (c : Call) (a : GateEvents) (es : List InnerEvent) → end_list c (facts_by a es) ≡ first_end c es
first_is c a [] = refl
first_is c a (e ∷ es) = refl

ends_listed : (inner : List ℕ → List ℕ → GateEvents) (held : WovenItems) (cs : List Call) → ends_by (λ name gate. facts_of (inner_of inner held name gate)) cs ≡ called_ends inner held cs
ends_listed inner held [] = refl
ends_listed inner held (c ∷ cs) =
    let a = inner_of inner held c.name c.gate in
    ap (λ (es : List GateEnd). es ++ ends_by (λ name gate. facts_of (inner_of inner held name gate)) cs) (first_is c a (listed a)) ∙ ap (λ (es : List GateEnd). first_end c (listed a) ++ es) (ends_listed inner held cs)

all_of : (P : List ℕ → Type 0) (ns : List (List ℕ)) → ((n : List ℕ) → P n) → AreAll P ns
all_of P [] h = tt
all_of P (n ∷ ns) h = (h n, all_of P ns h)

-- what is known of the named items of a level is the facts of their inner events
pub items_known : (table : Table) (depth : ℕ) (gates : GateTables) (held : WovenItems) (name gate : List ℕ) → AreGatesTo table depth gates → known_of (kept_of gates.charts) held name gate ≡ facts_of (inner_of (inner_to table depth) held name gate)
items_known table depth gates held name gate are =
    of_items_is (kept_of gates.charts) (inner_to table depth) held name gate (all_of (IsKnown (kept_of gates.charts) (inner_to table depth)) (items_names held) (λ n g. are.found n g))

pub level_ends : (table : Table) (depth : ℕ) (gates : GateTables) (held : WovenItems) → AreGatesTo table depth gates → ends_by (known_of (kept_of gates.charts) held) (calls held) ≡ ends_to table depth held
level_ends table depth gates held are =
    ends_same (known_of (kept_of gates.charts) held) (λ name gate. facts_of (inner_of (inner_to table depth) held name gate)) (calls held) (λ name gate. items_known table depth gates held name gate are)
    ∙ ends_listed (inner_to table depth) held (calls held)

pub mapped_twice : {A B C : Type 0} (f : B → C) (g : A → B) (o : Option A) → option_map (λ (x : A). f (g x)) o ≡ option_map f (option_map g o)
mapped_twice f g None = refl
mapped_twice f g (Some x) = refl

-- and of an expression
pub charts_known : (table : Table) (depth : ℕ) (gates : GateTables) (e : Expression) (gate : List ℕ) → AreGatesTo table depth gates → expression_known (kept_of gates.charts) e gate ≡ facts_of (expression_inner (inner_to table depth) e gate)
charts_known table depth gates e gate are =
    expression_is (kept_of gates.charts) (inner_to table depth) e gate (all_of (IsKnown (kept_of gates.charts) (inner_to table depth)) (charts_in e) (λ n g. are.found n g))
