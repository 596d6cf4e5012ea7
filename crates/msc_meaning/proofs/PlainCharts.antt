-- A level that holds events alone has one unfolding.
use Rattle.std.proofs.Common.{Bool, true, false, ◌++◌, ◌⊎◌, inl, inr, ◌≡◌, ℕ, List, [], ◌∷◌, refl, ap, sym, ◌∙◌, subst}
use Rattle.msc_base.specs.declared.label.Pair.{Pair}
use Rattle.std.proofs.lemmas.Option.{same_Some}
use Rattle.msc_base.specs.declared.label.Label.{Label}
use Rattle.msc_unfolding.specs.Runs.{IsRun}
use Rattle.msc_base.specs.Patterns.{seq, empty, one, join, bind}
use Rattle.msc_unfolding.specs.Unfoldings.{Unfolding, level_tie}
use Rattle.msc_meaning.specs.Bodies.{EventNode, level, WovenItems}
use Rattle.msc_meaning.specs.Tables.{Table, ChartEntry, Refinement, refinements, Woven, Basic, HighLevel}
use Rattle.msc_meaning.specs.Calls.{Call, calls}
use Rattle.msc_meaning.specs.InnerEvents.{GateEnd, AreEnds, no_ends, end_and}
use Rattle.msc_meaning.specs.FarEnds.{Around, Gates, no_gates, happening}
use Rattle.msc_meaning.specs.Ties.{ties}
use Rattle.msc_meaning.specs.ChartUnfoldings.{gates_of, under, OfWoven, of_body, OfLevel, of_level, OfItems, no_item, item_then, single}
use Rattle.msc_meaning.specs.PlainCharts.{singles, in_a_row, plain_unfolding, PlainHasOne, IsPlain, PlainConforms, PlainBegins}
use Rattle.msc_meaning.specs.Meanings.{Finished, Open}

abbrev row_by : List GateEnd → Around → List EventNode → Unfolding
row_by ends around [] = empty
row_by ends around (n ∷ ns) = join seq (one (happening ends around n)) (row_by ends around ns)

one_row : (table : Table) (ns : List EventNode) {gates : Gates} {around : Around} {u : Unfolding} → OfItems table gates around (singles ns) u → u ≡ row_by gates.ends around ns
one_row table [] no_item = refl
one_row table (n ∷ ns) {gates} {around} (item_then single h) = ap (λ v. join seq (one (happening gates.ends around n)) v) (one_row table ns h)

a_row : (table : Table) (ns : List EventNode) (gates : Gates) (around : Around) → OfItems table gates around (singles ns) (row_by gates.ends around ns)
a_row table [] gates around = no_item
a_row table (n ∷ ns) gates around = item_then single (a_row table ns gates around)

no_end : (table : Table) (held : WovenItems) {cs : List Call} {ends : List GateEnd} → AreEnds table held cs ends → cs ≡ [] → ends ≡ []
no_end table held no_ends e = refl
no_end table held (end_and {c = c} {cs = cs} n h k) e = absurd (clash e)
  where
    clash : c ∷ cs ≡ [] → ⊥
    clash e = cc

rows_agree : (around : Around) (ns : List EventNode) → row_by [] around ns ≡ in_a_row around ns
rows_agree around [] = refl
rows_agree around (n ∷ ns) = ap (λ v. join seq (one (happening [] around n)) v) (rows_agree around ns)

abbrev shape : Around → List EventNode → List Pair → List Call → List GateEnd → Unfolding
shape around ns pairs cs ends = bind (row_by ends around ns) (level_tie (ties (singles ns) pairs cs ends))

shape_is : (around : Around) (ns : List EventNode) (pairs : List Pair) → shape around ns pairs [] [] ≡ plain_unfolding around ns pairs
shape_is around ns pairs = ap (λ v. bind v (level_tie (ties (singles ns) pairs [] []))) (rows_agree around ns)

one_unfolding : (table : Table) (around : Around) (cover : List (List ℕ)) (ns : List EventNode) (pairs : List Pair) → calls (singles ns) ≡ []
    → (u : Unfolding) → OfLevel table around (level cover (singles ns) pairs) u → u ≡ plain_unfolding around ns pairs
one_unfolding table around cover ns pairs e _ (of_level {ends = ends} h k) =
    ap (λ v. bind v (level_tie (ties (singles ns) pairs (calls (singles ns)) ends))) (one_row table ns k)
    ∙ ap (λ c. shape around ns pairs c ends) e ∙ ap (λ f. shape around ns pairs [] f) (no_end table (singles ns) h e) ∙ shape_is around ns pairs

an_unfolding : (table : Table) (around : Around) (cover : List (List ℕ)) (ns : List EventNode) (pairs : List Pair) → calls (singles ns) ≡ []
    → OfLevel table around (level cover (singles ns) pairs) (plain_unfolding around ns pairs)
an_unfolding table around cover ns pairs e =
    let P : Unfolding → Type 0 = λ u. OfLevel table around (level cover (singles ns) pairs) u in
    subst P (ap (λ c. shape around ns pairs c []) e ∙ shape_is around ns pairs) (of_level ends (a_row table ns (gates_of (singles ns) []) around))
  where
    ends : AreEnds table (singles ns) (calls (singles ns)) []
    ends = let Q : List Call → Type 0 = λ c. AreEnds table (singles ns) c [] in subst Q (sym e) no_ends

pub plain_has_one : PlainHasOne
plain_has_one table around cover ns pairs e u = (one_unfolding table around cover ns pairs e u, λ h. back h)
  where
    back : u ≡ plain_unfolding around ns pairs → OfLevel table around (level cover (singles ns) pairs) u
    back h = let P : Unfolding → Type 0 = λ v. OfLevel table around (level cover (singles ns) pairs) v in subst P (sym h) (an_unfolding table around cover ns pairs e)

-- ---- plain charts of a table

in_woven : (table : Table) (held : _) (u : Unfolding) → OfWoven table no_gates [] (Basic held) u → OfLevel table (under no_gates) held u
in_woven table held u (of_body h) = h

finished_one : (table : Table) (name : List ℕ) (ns : List EventNode) (pairs : List Pair) → IsPlain table name ns pairs
    → (u : Unfolding) → Finished table name u → u ≡ plain_unfolding (under no_gates) ns pairs
finished_one table name ns pairs p u h = one_unfolding table (under no_gates) p.cover ns pairs p.silent u (in_woven table _ u third)
  where
    first : OfWoven table no_gates (refinements p.chart.decls) p.chart.content u
    first = let P : ChartEntry → Type 0 = λ c. OfWoven table no_gates (refinements c.decls) c.content u in subst P (sym (same_Some p.chart h.chart (sym p.is ∙ h.is))) h.unfolds

    second : OfWoven table no_gates [] p.chart.content u
    second = let P : List Refinement → Type 0 = λ r. OfWoven table no_gates r p.chart.content u in subst P p.whole first

    third : OfWoven table no_gates [] (Basic (level p.cover (singles ns) pairs)) u
    third = let P : Woven → Type 0 = λ w. OfWoven table no_gates [] w u in subst P p.events second

is_finished : (table : Table) (name : List ℕ) (ns : List EventNode) (pairs : List Pair) → IsPlain table name ns pairs → Finished table name (plain_unfolding (under no_gates) ns pairs)
is_finished table name ns pairs p = record { chart = p.chart; is = p.is; unfolds = second }
  where
    first : OfWoven table no_gates [] p.chart.content (plain_unfolding (under no_gates) ns pairs)
    first = let P : Woven → Type 0 = λ w. OfWoven table no_gates [] w (plain_unfolding (under no_gates) ns pairs) in
        subst P (sym p.events) (of_body (an_unfolding table (under no_gates) p.cover ns pairs p.silent))

    second : OfWoven table no_gates (refinements p.chart.decls) p.chart.content (plain_unfolding (under no_gates) ns pairs)
    second = let P : List Refinement → Type 0 = λ r. OfWoven table no_gates r p.chart.content (plain_unfolding (under no_gates) ns pairs) in subst P (sym p.whole) first

is_graph : Woven → Bool
is_graph (Basic body) = false
is_graph (HighLevel held) = true

not_open : (table : Table) (name : List ℕ) (ns : List EventNode) (pairs : List Pair) → IsPlain table name ns pairs → (u : Unfolding) → Open table name u → ⊥
unfolding is_graph
not_open table name ns pairs p u o = clash (ap is_graph (sym p.events ∙ ap (λ c. c.content) (same_Some p.chart o.chart (sym p.is ∙ o.is)) ∙ o.drawn))
  where
    clash : false ≡ true → ⊥
    clash e = cc

at_one : (u v : Unfolding) (labels : List Label) → u ≡ v → IsRun u labels → IsRun v labels
at_one u v labels e r = let P : Unfolding → Type 0 = λ w. IsRun w labels in subst P e r

pub plain_conforms : PlainConforms
plain_conforms table name ns pairs p labels = (λ h. at_one h.of _ labels (finished_one table name ns pairs p h.of h.is) h.run, λ r. record { of = _; is = is_finished table name ns pairs p; run = r })

pub plain_begins : PlainBegins
plain_begins table name ns pairs p labels = (λ h. (h.rest, from h.rest h.runs.of h.runs.is h.runs.run), λ r. record { rest = r.0; runs = record { of = _; is = inl (is_finished table name ns pairs p); run = r.1 } })
  where
    from : (rest : List Label) (u : Unfolding) → Finished table name u ⊎ Open table name u → IsRun u (labels ++ rest) → IsRun (plain_unfolding (under no_gates) ns pairs) (labels ++ rest)
    from rest u (inl f) r = at_one u _ (labels ++ rest) (finished_one table name ns pairs p u f) r
    from rest u (inr o) r = absurd (not_open table name ns pairs p u o)
