-- The table of charts, entry by entry.
use Rattle.std.proofs.Common.{◌≡◌, inl, inr, ℕ, ◌<◌, ◌+◌, List, [], ◌∷◌, ◌++◌, Option, Some, None, get_or, drop, take, length, map, ◌≤◌, arith, refl, sym, subst, ap, ◌∙◌}
use Rattle.std.proofs.lemmas.List.{map-append, take_all, take_more}
use Rattle.std.proofs.lemmas.Bool.{cases_lt}
use Rattle.chart_forms.specs.LoopBounds.{HasHighBound}
use Rattle.creation_rules.specs.Creating.{ChartCreatesTwice}
use Rattle.creation_rules.specs.Placing.{ChartPlacesCreation}
use Rattle.creation_rules.specs.Stopping.{ChartGoesOn}
use Rattle.refinement_rules.specs.Coregions.{HasLocalCoregion}
use Rattle.general_ordering.specs.EventNames.{Unknown, Twice}
use Rattle.level_weaving.specs.Exceptions.{IsMisplaced}
use Rattle.msc_acceptance.proofs.WalkLaws.{part_step, walk_end}
use Rattle.msc_acceptance.specs.ChartFaults.{CrossesAt, IsAloneAt, IsMisnamedAt}
use Rattle.msc_acceptance.specs.Deciding.{AreEarlier, AreFaultsIn, AreFaultsOf, AreOwnPlaces, AreOwnTexts, ArePartPlaces, AreTextPlaces, IsNextWoven, IsTakenIn, IsWhole, earlier_of}
use Rattle.msc_acceptance.specs.Rules.{InOne}
use Rattle.msc_acceptance.specs.declared.parts.PartPlaces.{PartPlaces}
use Rattle.msc_acceptance.specs.declared.reading.TextPlaces.{TextPlaces}
use Rattle.msc_acceptance.specs.declared.tables.BodyFaults.{BodyFaults}
use Rattle.msc_acceptance.specs.declared.tables.ChartResult.{ChartResult}
use Rattle.msc_acceptance.specs.declared.tables.ChartResult.TheVariants as one
use Rattle.msc_acceptance.specs.declared.tables.Weaving.{Weaving}
use Rattle.msc_base.proofs.Narrowing.{Narrows, earliest_is, narrows_start}
use Rattle.msc_base.specs.Places.{IsLeast}
use Rattle.msc_base.specs.declared.place.Place.{Place}
use Rattle.msc_instances.specs.Instances.{instances}
use Rattle.msc_instances.specs.NameFaults.{ChartNamesOther, ChartNamesTwice}
use Rattle.msc_meaning.specs.Tables.{ChartEntry, Table}
use Rattle.msc_meaning.specs.Views.{entry_view, table_view}
use Rattle.msc_meaning.specs.WovenTables.{AreEntriesOf, no_entries, entry_and, IsEntryOf}
use Rattle.msc_meaning.specs.declared.body.ChartEntry as code
use Rattle.msc_tree.specs.Charts.{Chart}
use Rattle.msc_tree.specs.Views.{chart_view}
use Rattle.msc_tree.specs.declared.chart.RawChart.{RawChart}
use Rattle.shared_parts.specs.PartRules.{ChartBreaksPartRule}
use Rattle.shared_parts.specs.declared.faults.PartRule.TheVariants as part

-- the earliest place so far at which one of the charts breaks a rule
abbrev pub LeastSoFar : (Chart → Place → Type 0) → List RawChart → ℕ → Option Place → Type 0
LeastSoFar Holds list k found = Narrows (InOne Holds (map chart_view list)) (InOne Holds (map chart_view (drop k list))) found

least_start : (Holds : Chart → Place → Type 0) (list : List RawChart) (found : Option Place) → found ≡ None → LeastSoFar Holds list 0 found
least_start Holds list found e = subst (λ (o : Option Place). LeastSoFar Holds list 0 o) (sym e) (narrows_start (InOne Holds (map chart_view list)))

least_more : (Holds : Chart → Place → Type 0) (list : List RawChart) (k : ℕ) (c : RawChart) (best found next : Option Place) → k < length list → c ≡ get_or list k c
    → IsLeast (Holds (chart_view c)) found → next ≡ earlier_of best found → LeastSoFar Holds list k best → LeastSoFar Holds list (k + 1) next
least_more Holds list k c best found next low is least made h = part_step (InOne Holds (map chart_view list)) Holds list k c best found next low is least made h

least_all : (Holds : Chart → Place → Type 0) (list : List RawChart) (k : ℕ) (found : Option Place) → (k < length list → ⊥) → LeastSoFar Holds list k found → IsLeast (InOne Holds (map chart_view list)) found
least_all Holds list k found n h = walk_end (InOne Holds (map chart_view list)) (InOne Holds) list k found n (λ q g. g) h

-- ---- what is read with the instances

pub record AreTextsSoFar (list : List RawChart) (k : ℕ) (places : TextPlaces) : Type 0 where
  pub high_bound : LeastSoFar HasHighBound list k places.high_bound
  pub twice : LeastSoFar ChartNamesTwice list k places.twice
  pub undeclared : LeastSoFar ChartNamesOther list k places.undeclared
  pub creation : LeastSoFar ChartPlacesCreation list k places.creation
  pub child : LeastSoFar ChartCreatesTwice list k places.child
  pub behind : LeastSoFar ChartGoesOn list k places.behind
  pub coregion : LeastSoFar HasLocalCoregion list k places.coregion

pub texts_start : (list : List RawChart) → AreTextsSoFar list 0 (record { high_bound = None; twice = None; undeclared = None; creation = None; child = None; behind = None; coregion = None })
texts_start list = record {
  high_bound = narrows_start (InOne HasHighBound (map chart_view list));
  twice = narrows_start (InOne ChartNamesTwice (map chart_view list));
  undeclared = narrows_start (InOne ChartNamesOther (map chart_view list));
  creation = narrows_start (InOne ChartPlacesCreation (map chart_view list));
  child = narrows_start (InOne ChartCreatesTwice (map chart_view list));
  behind = narrows_start (InOne ChartGoesOn (map chart_view list));
  coregion = narrows_start (InOne HasLocalCoregion (map chart_view list));
}

-- the places of both
pub record AreEarlierTexts (a b c : TextPlaces) : Type 0 where
  pub high_bound : c.high_bound ≡ earlier_of a.high_bound b.high_bound
  pub twice : c.twice ≡ earlier_of a.twice b.twice
  pub undeclared : c.undeclared ≡ earlier_of a.undeclared b.undeclared
  pub creation : c.creation ≡ earlier_of a.creation b.creation
  pub child : c.child ≡ earlier_of a.child b.child
  pub behind : c.behind ≡ earlier_of a.behind b.behind
  pub coregion : c.coregion ≡ earlier_of a.coregion b.coregion

pub texts_more : (list : List RawChart) (k : ℕ) (c : RawChart) (best found next : TextPlaces) → k < length list → c ≡ get_or list k c → AreOwnTexts (chart_view c) found → AreEarlierTexts best found next
    → AreTextsSoFar list k best → AreTextsSoFar list (k + 1) next
texts_more list k c best found next low is own made h = record {
  high_bound = least_more HasHighBound list k c best.high_bound found.high_bound next.high_bound low is own.high_bound made.high_bound h.high_bound;
  twice = least_more ChartNamesTwice list k c best.twice found.twice next.twice low is own.twice made.twice h.twice;
  undeclared = least_more ChartNamesOther list k c best.undeclared found.undeclared next.undeclared low is own.undeclared made.undeclared h.undeclared;
  creation = least_more ChartPlacesCreation list k c best.creation found.creation next.creation low is own.creation made.creation h.creation;
  child = least_more ChartCreatesTwice list k c best.child found.child next.child low is own.child made.child h.child;
  behind = least_more ChartGoesOn list k c best.behind found.behind next.behind low is own.behind made.behind h.behind;
  coregion = least_more HasLocalCoregion list k c best.coregion found.coregion next.coregion low is own.coregion made.coregion h.coregion;
}

pub texts_all : (list : List RawChart) (k : ℕ) (places : TextPlaces) → (k < length list → ⊥) → AreTextsSoFar list k places → AreTextPlaces (map chart_view list) places
texts_all list k places n h = record {
  high_bound = least_all HasHighBound list k places.high_bound n h.high_bound;
  twice = least_all ChartNamesTwice list k places.twice n h.twice;
  undeclared = least_all ChartNamesOther list k places.undeclared n h.undeclared;
  creation = least_all ChartPlacesCreation list k places.creation n h.creation;
  child = least_all ChartCreatesTwice list k places.child n h.child;
  behind = least_all ChartGoesOn list k places.behind n h.behind;
  coregion = least_all HasLocalCoregion list k places.coregion n h.coregion;
}

-- ---- parts

pub record ArePartsSoFar (list : List RawChart) (k : ℕ) (places : PartPlaces) : Type 0 where
  pub unshared : LeastSoFar (ChartBreaksPartRule part.NotShared) list k places.unshared
  pub differing : LeastSoFar (ChartBreaksPartRule part.OperandsDiffer) list k places.differing
  pub misplaced : LeastSoFar IsMisplaced list k places.misplaced

-- no place
pub record HasNoParts (places : PartPlaces) : Type 0 where
  pub unshared : places.unshared ≡ None
  pub differing : places.differing ≡ None
  pub misplaced : places.misplaced ≡ None

pub parts_start : (list : List RawChart) (places : PartPlaces) → HasNoParts places → ArePartsSoFar list 0 places
parts_start list places none = record {
  unshared = least_start (ChartBreaksPartRule part.NotShared) list places.unshared none.unshared;
  differing = least_start (ChartBreaksPartRule part.OperandsDiffer) list places.differing none.differing;
  misplaced = least_start IsMisplaced list places.misplaced none.misplaced;
}

-- the places of both
pub record AreEarlierParts (a b c : PartPlaces) : Type 0 where
  pub unshared : c.unshared ≡ earlier_of a.unshared b.unshared
  pub differing : c.differing ≡ earlier_of a.differing b.differing
  pub misplaced : c.misplaced ≡ earlier_of a.misplaced b.misplaced

pub parts_more : (list : List RawChart) (k : ℕ) (c : RawChart) (best found next : PartPlaces) → k < length list → c ≡ get_or list k c → AreOwnPlaces (chart_view c) found → AreEarlierParts best found next
    → ArePartsSoFar list k best → ArePartsSoFar list (k + 1) next
parts_more list k c best found next low is own made h = record {
  unshared = least_more (ChartBreaksPartRule part.NotShared) list k c best.unshared found.unshared next.unshared low is own.unshared made.unshared h.unshared;
  differing = least_more (ChartBreaksPartRule part.OperandsDiffer) list k c best.differing found.differing next.differing low is own.differing made.differing h.differing;
  misplaced = least_more IsMisplaced list k c best.misplaced found.misplaced next.misplaced low is own.misplaced made.misplaced h.misplaced;
}

pub parts_all : (list : List RawChart) (k : ℕ) (places : PartPlaces) → (k < length list → ⊥) → ArePartsSoFar list k places → ArePartPlaces (map chart_view list) places
parts_all list k places n h = record {
  unshared = least_all (ChartBreaksPartRule part.NotShared) list k places.unshared n h.unshared;
  differing = least_all (ChartBreaksPartRule part.OperandsDiffer) list k places.differing n h.differing;
  misplaced = least_all IsMisplaced list k places.misplaced n h.misplaced;
}

-- ---- what charts are woven to

none_yet : (best found : Option Place) → earlier_of best found ≡ None → (best ≡ None) × (found ≡ None)
none_yet best None e = (e, refl)
none_yet best (Some p) e = let it = earliest_is best p in let some : earlier_of best (Some p) ≡ Some it.0 = it.1 in absurd (cc)

both_whole : (a b c : BodyFaults) → AreEarlier a b c → IsWhole c → IsWhole a × IsWhole b
both_whole a b c made whole =
    let crossed = none_yet a.crossed b.crossed (sym made.crossed ∙ whole.0) in
    let alone = none_yet a.alone b.alone (sym made.alone ∙ whole.1) in
    ((crossed.0, alone.0), (crossed.1, alone.1))

-- the earliest places so far
pub record AreFaultsSoFar (list : List RawChart) (k : ℕ) (faults : BodyFaults) : Type 0 where
  pub crossed : LeastSoFar CrossesAt list k faults.crossed
  pub alone : faults.crossed ≡ None → LeastSoFar IsAloneAt list k faults.alone
  pub unknown : IsWhole faults → LeastSoFar (IsMisnamedAt Unknown) list k faults.unknown
  pub twice : IsWhole faults → LeastSoFar (IsMisnamedAt Twice) list k faults.twice

-- no place so far
pub record HasNone (faults : BodyFaults) : Type 0 where
  pub crossed : faults.crossed ≡ None
  pub alone : faults.alone ≡ None
  pub unknown : faults.unknown ≡ None
  pub twice : faults.twice ≡ None

pub faults_start : (list : List RawChart) (faults : BodyFaults) → HasNone faults → AreFaultsSoFar list 0 faults
faults_start list faults none = record {
  crossed = least_start CrossesAt list faults.crossed none.crossed;
  alone = λ e. least_start IsAloneAt list faults.alone none.alone;
  unknown = λ w. least_start (IsMisnamedAt Unknown) list faults.unknown none.unknown;
  twice = λ w. least_start (IsMisnamedAt Twice) list faults.twice none.twice;
}

pub faults_more : (list : List RawChart) (k : ℕ) (c : RawChart) (best found next : BodyFaults) → k < length list → c ≡ get_or list k c → AreFaultsOf (chart_view c) found → AreEarlier best found next
    → AreFaultsSoFar list k best → AreFaultsSoFar list (k + 1) next
faults_more list k c best found next low is own made h = record {
  crossed = least_more CrossesAt list k c best.crossed found.crossed next.crossed low is own.crossed made.crossed h.crossed;
  alone = λ e. let none = none_yet best.crossed found.crossed (sym made.crossed ∙ e) in
      least_more IsAloneAt list k c best.alone found.alone next.alone low is (own.alone none.1) made.alone (h.alone none.0);
  unknown = λ w. let both = both_whole best found next made w in
      least_more (IsMisnamedAt Unknown) list k c best.unknown found.unknown next.unknown low is (own.unknown both.1) made.unknown (h.unknown both.0);
  twice = λ w. let both = both_whole best found next made w in
      least_more (IsMisnamedAt Twice) list k c best.twice found.twice next.twice low is (own.twice both.1) made.twice (h.twice both.0);
}

pub faults_all : (list : List RawChart) (k : ℕ) (faults : BodyFaults) → (k < length list → ⊥) → AreFaultsSoFar list k faults → AreFaultsIn (map chart_view list) faults
faults_all list k faults n h = record {
  crossed = least_all CrossesAt list k faults.crossed n h.crossed;
  alone = λ e. least_all IsAloneAt list k faults.alone n (h.alone e);
  unknown = λ w. least_all (IsMisnamedAt Unknown) list k faults.unknown n (h.unknown w);
  twice = λ w. least_all (IsMisnamedAt Twice) list k faults.twice n (h.twice w);
}

-- ---- their entries

-- where each chart so far has a body, the entries so far are those of the charts so far
abbrev pub MadeSoFar : List RawChart → BodyFaults → List code.ChartEntry → Type 0
MadeSoFar charts faults entries = IsWhole faults → AreEntriesOf instances (map chart_view charts) (table_view entries)

entries_snoc : (charts : List Chart) (table : Table) (c : Chart) (e : ChartEntry) → AreEntriesOf instances charts table → IsEntryOf (instances c) c e → AreEntriesOf instances (charts ++ c ∷ []) (table ++ e ∷ [])
entries_snoc [] [] c e no_entries is = entry_and is no_entries
entries_snoc [] (f ∷ table) c e h is = elim h [ ]
entries_snoc (d ∷ charts) [] c e h is = elim h [ ]
entries_snoc (d ∷ charts) (f ∷ table) c e (entry_and g h) is = entry_and g (entries_snoc charts table c e h is)

-- one entry more
pub made_more : (list : List RawChart) (k : ℕ) (c : RawChart) (best found next : BodyFaults) (entries after : List code.ChartEntry) (e : code.ChartEntry) → k < length list → c ≡ get_or list k c
    → AreEarlier best found next → MadeSoFar (take k list) best entries → IsEntryOf (instances (chart_view c)) (chart_view c) (entry_view e) → after ≡ entries ++ e ∷ []
    → MadeSoFar (take (k + 1) list) next after
made_more list k c best found next entries after e low is earlier h entry made = λ w.
    let charts : map chart_view (take (k + 1) list) ≡ map chart_view (take k list) ++ chart_view c ∷ [] =
    ap (map chart_view) (take_more list k c low ∙ ap (λ (x : RawChart). take k list ++ x ∷ []) (sym is)) ∙ map-append chart_view (take k list) (c ∷ []) in
    let longer : table_view after ≡ table_view entries ++ entry_view e ∷ [] = ap table_view made ∙ map-append entry_view entries (e ∷ []) in
    subst (λ (cs : List Chart). AreEntriesOf instances cs (table_view after)) (sym charts)
    (subst (λ (t : Table). AreEntriesOf instances (map chart_view (take k list) ++ chart_view c ∷ []) t) (sym longer)
    (entries_snoc (map chart_view (take k list)) (table_view entries) (chart_view c) (entry_view e) (h (both_whole best found next earlier w).0) entry))

-- once a chart has no body nothing is owed
pub made_none : (charts : List RawChart) (best found next : BodyFaults) (entries : List code.ChartEntry) → AreEarlier best found next → (IsWhole found → ⊥) → MadeSoFar charts next entries
made_none charts best found next entries made barred = λ w. absurd (barred (both_whole best found next made w).1)

-- what the charts so far are woven to
pub record AreWovenSoFar (list : List RawChart) (k : ℕ) (weaving : Weaving) : Type 0 where
  pub faults : AreFaultsSoFar list k weaving.faults
  pub made : MadeSoFar (take k list) weaving.faults weaving.entries.items

-- one chart further
pub woven_more : (list : List RawChart) (k : ℕ) (c : RawChart) (result : ChartResult) (old new : Weaving) → k < length list → c ≡ get_or list k c → IsNextWoven (chart_view c) result → IsTakenIn old result new
    → AreWovenSoFar list k old → AreWovenSoFar list (k + 1) new
woven_more list k c (one.Entry entry found) old new low is woven taken h = record {
  faults = faults_more list k c old.faults found new.faults low is woven.1 taken.0 h.faults;
  made = made_more list k c old.faults found new.faults old.entries.items new.entries.items entry low is taken.0 h.made woven.0 taken.1;
}
woven_more list k c (one.Barred found) old new low is woven taken h = record {
  faults = faults_more list k c old.faults found new.faults low is woven.1 taken h.faults;
  made = made_none (take (k + 1) list) old.faults found new.faults new.entries.items taken woven.0;
}

pub made_all : (list : List RawChart) (faults : BodyFaults) (entries : List code.ChartEntry) (k : ℕ) → (k < length list → ⊥) → MadeSoFar (take k list) faults entries → MadeSoFar list faults entries
made_all list faults entries k n h = subst (λ (l : List RawChart). MadeSoFar l faults entries) (take_all k list (omega (arith, le))) h
  where
    le : length list ≤ k
    le = elim (cases_lt k (length list)) [ inl lt ↦ absurd (n lt) | inr ge ↦ ge ]
