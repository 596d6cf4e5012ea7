-- Where a chart names no others, each name that its notes declare or name is among its instances.
use Rattle.std.proofs.Common.{◌≡◌, ◌||◌, inl, inr, ℕ, Bool, true, false, List, [], ◌∷◌, ◌++◌, map, refl, ap, ◌∙◌}
use Rattle.std.specs.List.{list_any}
use Rattle.std.specs.Str.{bytes_eq}
use Rattle.std.proofs.lemmas.Bool.{or_right}
use Rattle.std.proofs.lemmas.Slice.Eq.{bytes_eq-Decides}
use Rattle.chart_text.specs.Texts.{Scope, Whole, Within}
use Rattle.msc_base.specs.Lists.{IsAmong}
use Rattle.msc_base.specs.NameTables.{with_name}
use Rattle.msc_base.specs.declared.place.Place.{Place}
use Rattle.msc_base.proofs.NameFacts.{any_from_one, any_with_name, one_from_any}
use Rattle.msc_tree.specs.Charts.{Chart}
use Rattle.msc_instances.specs.Instances.{MayName, NamesOther, instances, with_declared}
use Rattle.msc_instances.specs.NameFaults.{ChartNamesOther}
use Rattle.msc_instances.specs.Notes.{Declared, Decomposed, Named, Note, chart_notes, named_notes}

kept : (names : List (List ℕ)) (n m : List ℕ) → IsAmong names m → IsAmong (with_name names n) m
kept names n m h = one_from_any (with_name names n) m (any_with_name names n m ∙ ap (λ (b : Bool). b || bytes_eq m n) (any_from_one names m h))

added : (names : List (List ℕ)) (n : List ℕ) → IsAmong (with_name names n) n
added names n = one_from_any (with_name names n) n (any_with_name names n n ∙ or_right (list_any (bytes_eq n) names) (bytes_eq n n) ((bytes_eq-Decides n n).1 refl))

still : (names : List (List ℕ)) (notes : List Note) (m : List ℕ) → IsAmong names m → IsAmong (with_declared names notes) m
still names [] m h = h
still names (Declared name ∷ notes) m h = still (with_name names name) notes m (kept names name m h)
still names (Decomposed name place ∷ notes) m h = still names notes m h
still names (Named name place scope ∷ notes) m h = still names notes m h

-- ---- names among instances

-- each is among the instances
abbrev pub AreAmong : List (List ℕ) → List (List ℕ) → Type 0
AreAmong names [] = Unit {0}
AreAmong names (n ∷ ns) = IsAmong names n × AreAmong names ns

among_each : (names ns : List (List ℕ)) → ((n : List ℕ) → IsAmong ns n → IsAmong names n) → AreAmong names ns
among_each names [] f = tt
among_each names (n ∷ ns) f = (f n (inl refl), among_each names ns (λ m h. f m (inr h)))

pub all_among : (names : List (List ℕ)) → AreAmong names names
all_among names = among_each names names (λ n h. h)

-- ---- what notes say

-- what they declare and what they name is among the instances
abbrev pub AreKnown : List (List ℕ) → List Note → Type 0
AreKnown names [] = Unit {0}
AreKnown names (Declared name ∷ notes) = IsAmong names name × AreKnown names notes
AreKnown names (Decomposed name place ∷ notes) = AreKnown names notes
AreKnown names (Named name place scope ∷ notes) = IsAmong names name × AreKnown names notes

-- the name may stand there: so it is an instance
may_among : (names : List (List ℕ)) (scope : Scope) (name : List ℕ) → MayName names scope name → IsAmong names name
may_among names Whole name h = h
may_among names (Within cover) name h = h.0

not_other : (names : List (List ℕ)) (scope : Scope) (name : List ℕ) → ((MayName names scope name → ⊥) → ⊥) → IsAmong names name
not_other names scope name h = by (list_any (bytes_eq name) names) refl
  where
    by : (b : Bool) → list_any (bytes_eq name) names ≡ b → IsAmong names name
    by true is = one_from_any names name is
    by false is = absurd (h (λ may. let there : list_any (bytes_eq name) names ≡ true = any_from_one names name (may_among names scope name may) in cc))

-- notes behind which these names are declared
known_from : (names before : List (List ℕ)) (notes : List Note) → ((m : List ℕ) → IsAmong (with_declared before notes) m → IsAmong names m) → ((p : Place) → NamesOther names notes p → ⊥) → AreKnown names notes
known_from names before [] f none = tt
known_from names before (Declared name ∷ notes) f none =
    (f name (still (with_name before name) notes name (added before name)), known_from names (with_name before name) notes f none)
known_from names before (Decomposed name place ∷ notes) f none = known_from names before notes f none
known_from names before (Named name place scope ∷ notes) f none =
    (not_other names scope name (λ other. none place (inl (refl, other))), known_from names before notes f (λ p h. none p (inr h)))

pub chart_known : (c : Chart) → ((p : Place) → ChartNamesOther c p → ⊥) → AreKnown (instances c) (chart_notes c)
chart_known c none = known_from (instances c) [] (chart_notes c) (λ m h. h) none

pub known_left : (names : List (List ℕ)) (notes more : List Note) → AreKnown names (notes ++ more) → AreKnown names notes
known_left names [] more h = tt
known_left names (Declared name ∷ notes) more h = (h.0, known_left names notes more h.1)
known_left names (Decomposed name place ∷ notes) more h = known_left names notes more h
known_left names (Named name place scope ∷ notes) more h = (h.0, known_left names notes more h.1)

pub known_right : (names : List (List ℕ)) (notes more : List Note) → AreKnown names (notes ++ more) → AreKnown names more
known_right names [] more h = h
known_right names (Declared name ∷ notes) more h = known_right names notes more h.1
known_right names (Decomposed name place ∷ notes) more h = known_right names notes more h
known_right names (Named name place scope ∷ notes) more h = known_right names notes more h.1

pub declared_known : (names ns : List (List ℕ)) → AreKnown names (map Declared ns) → AreAmong names ns
declared_known names [] h = tt
declared_known names (n ∷ ns) h = (h.0, declared_known names ns h.1)

pub named_known : (names : List (List ℕ)) (scope : Scope) (place : Place) (ns : List (List ℕ)) → AreKnown names (named_notes scope place ns) → AreAmong names ns
named_known names scope place [] h = tt
named_known names scope place (n ∷ ns) h = (h.0, named_known names scope place ns h.1)
