-- Laws of meanings: what conforms begins, a finished walk may be under way too, every graph begins the empty list, and the ends of
-- called gates are one list where the inner events agree.
use Rattle.std.proofs.Common.{true, false, List, [], ◌∷◌, refl, ap, sym, ◌∙◌, subst, inl, inr, append-nil}
use Rattle.msc_base.specs.declared.label.Label.{Label}
use Rattle.msc_base.specs.declared.label.LabelRef.{LabelRef}
use Rattle.msc_base.specs.Orders.{first, later}
use Rattle.msc_base.specs.Patterns.{empty}
use Rattle.msc_unfolding.specs.Runs.{IsRun}
use Rattle.msc_unfolding.specs.Unfoldings.{Unfolding}
use Rattle.msc_tree.specs.Graphs.{Lines}
use Rattle.msc_meaning.specs.InnerEvents.{InnerEvent, IsInnerOf, GateEnd, AreEnds, no_ends, end_and}
use Rattle.msc_meaning.specs.Tables.{Table}
use Rattle.msc_meaning.specs.ChartUnfoldings.{OfWalk, stops, ends, goes}
use Rattle.msc_meaning.specs.MeaningLaws.{ConformsBegins, WalksAreOpen, GraphsBegin, end_by, EndsAreThere, EndsAreOne}

pub conforms_begins : ConformsBegins
conforms_begins table name labels h = record { rest = []; runs = record { of = h.of; is = inl h.is; run = let P : List Label → Type 0 = λ l. IsRun h.of l in subst P (sym (append-nil labels)) h.run } }

opened : {table : Table} {lines : Lines} {next : List LabelRef} {u : Unfolding} → OfWalk table false lines next u → OfWalk table true lines next u
opened (ends a b) = ends a b
opened (goes a b n w) = goes a b n (opened w)

pub walks_are_open : WalksAreOpen
walks_are_open table lines next u w = opened w

pub graphs_begin : GraphsBegin
graphs_begin table name entry starts lines h k = record {
  rest = [];
  runs = record {
    of = empty;
    is = inr (record { chart = entry; is = h; starts = starts; lines = lines; drawn = k; walks = stops });
    run = record { order = []; linear = record { every = λ p. absurd p; once = tt; kept = tt }; are = refl };
  };
}

pub ends_are_there : EndsAreThere
ends_are_there table held [] f = ([], no_ends)
ends_are_there table held (c ∷ cs) f = add (f c first) (ends_are_there table held cs (λ d a. f d (later a)))
  where
    add : ((n : InnerEvent) × IsInnerOf table held c.name c.gate n) → ((es : List GateEnd) × AreEnds table held cs es) → (es : List GateEnd) × AreEnds table held (c ∷ cs) es
    add (n, h) (es, k) = (end_by c.name c.gate n ∷ es, end_and n h k)

pub ends_are_one : EndsAreOne
ends_are_one table held [] f _ _ no_ends no_ends = refl
ends_are_one table held (c ∷ cs) f _ _ (end_and {ends = es} n h k) (end_and {ends = fs} m i l) =
    ap (λ e. e ∷ es) (f c first n m h i) ∙ ap (λ r. end_by c.name c.gate m ∷ r) (ends_are_one table held cs (λ d a. f d (later a)) es fs k l)
