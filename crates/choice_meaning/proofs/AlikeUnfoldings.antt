-- Whatever a level is given from around it, it has unfoldings that are alike.
use Rattle.std.specs.Prelude.{ℕ, List, ◌∷◌, refl}
use Rattle.msc_base.specs.declared.label.Far.{Far}
use Rattle.msc_base.specs.Patterns.{Mode, par, empty, one, join, bind}
use Rattle.msc_unfolding.specs.Unfoldings.{Unfolding, Tie}
use Rattle.msc_tree.specs.declared.reference.InlineForm.{InlineForm}
use Rattle.msc_tree.specs.Expressions.{Expression, Expressions}
use Rattle.msc_meaning.specs.Bodies.{EventNode, InlinePart, Body, WovenItems, WovenItem, Bodies}
use Rattle.msc_meaning.specs.ChartUnfoldings.{OfEvents, no_event, event_and, OfLevel, of_level, OfItems, no_item, item_then, exception, no_exception, OfItem, single, coregion, inline_part, reference, OfForm, alternative, taken, left_out, parallel, turns, no_turns, OfSome, this, that, OfAll, no_operand, operand_and, OfTurns, no_turn, turn_and, OfExpression, nothing, chart, one_of, beside, in_turn, done, not_done, rounds, no_rounds, OfOne, this_part, that_part, OfEach, no_part, part_and, OfRounds, no_round, round_and, OfWoven, of_body, of_refined, of_graph, OfRefinings, no_refining, refining_and, under, refined_under, refining_under}
use Rattle.msc_meaning.specs.FarEnds.{GateMap, Around, Gates, far_end, gates_referred, happening, inside}
use Rattle.msc_meaning.specs.InnerEvents.{GateEnd}
use Rattle.msc_meaning.specs.Refinements.{Refining, refinings}
use Rattle.msc_meaning.specs.Tables.{Table, Woven, Refinement}
use Rattle.choice_meaning.specs.FarEndLaws.{Alike, no_events, one_event, in_join, in_tie, HasAlike, SamePlace}

same_place : (ends : List GateEnd) (a b : Around) (n : EventNode) → SamePlace (happening ends a n) (happening ends b n)
same_place ends a b n = record { at = refl; also = refl; tags = refl }

-- ---- by constructors

empty_like : {S : Unfolding → Type 0} → S empty → HasAlike S empty
empty_like h = record { other = empty; is = h; alike = no_events }

kept : {S T : Unfolding → Type 0} {u : Unfolding} → ((v : Unfolding) → S v → T v) → HasAlike S u → HasAlike T u
kept f h = record { other = h.other; is = f h.other h.is; alike = h.alike }

joined : {S T R : Unfolding → Type 0} {m : Mode} {u w : Unfolding} → ((v x : Unfolding) → S v → T x → R (join m v x)) → HasAlike S u → HasAlike T w → HasAlike R (join m u w)
joined {m = m} f h k = record { other = join m h.other k.other; is = f h.other k.other h.is k.is; alike = in_join h.alike k.alike }

tied : {S R : Unfolding → Type 0} {t : Tie} {u : Unfolding} → ((v : Unfolding) → S v → R (bind v t)) → HasAlike S u → HasAlike R (bind u t)
tied {t = t} f h = record { other = bind h.other t; is = f h.other h.is; alike = in_tie h.alike }

like_itself : (u : Unfolding) → Alike u u
like_itself empty = no_events
like_itself (one h) = one_event (record { at = refl; also = refl; tags = refl })
like_itself (join m u v) = in_join (like_itself u) (like_itself v)
like_itself (bind u t) = in_tie (like_itself u)

module _ (table : Table) where
  events_like : {ends : List GateEnd} {a : Around} (b : Around) {ns : List EventNode} {u : Unfolding} → OfEvents ends a ns u → HasAlike (OfEvents ends b ns) u
  events_like b no_event = empty_like no_event
  events_like {ends} {a} b (event_and {n = n} h) =
      let k = events_like b h in
      record { other = join par (one (happening ends b n)) k.other; is = event_and k.is; alike = in_join (one_event (same_place ends a b n)) k.alike }

  mutual
    pub level_like : {a : Around} (b : Around) {body : Body} {u : Unfolding} → OfLevel table a body u → HasAlike (OfLevel table b body) u
    level_like b (of_level e h) = tied (λ v i. of_level e i) (items_like b h)

    pub items_like : {gates : Gates} {a : Around} (b : Around) {held : WovenItems} {u : Unfolding} → OfItems table gates a held u → HasAlike (OfItems table gates b held) u
    items_like b no_item = empty_like no_item
    items_like b (item_then h k) = joined (λ v x i j. item_then i j) (item_like b h) (items_like b k)
    items_like {gates} b (exception {part = part} h) = tied (λ v i. exception i) (level_like (inside gates part.name b) h)
    items_like b (no_exception h) = kept (λ v i. no_exception i) (items_like b h)

    item_like : {gates : Gates} {a : Around} (b : Around) {x : WovenItem} {u : Unfolding} → OfItem table gates a x u → HasAlike (OfItem table gates b x) u
    item_like {gates} {a} b (single {n = n}) = record { other = one (happening gates.ends b n); is = single; alike = one_event (same_place gates.ends a b n) }
    item_like b (coregion h) = kept (λ v i. coregion i) (events_like b h)
    item_like {gates} b (inline_part {part = part} h) = tied (λ v i. inline_part i) (form_like (inside gates part.name b) h)
    item_like {gates} b (reference {part = part} h) = tied (λ v i. reference i) (expression_like (gates_referred gates part.name part.joins b.gates) h)

    form_like : {a : Around} (b : Around) {form : InlineForm} {part : InlinePart} {operands : Bodies} {u : Unfolding} → OfForm table a form part operands u → HasAlike (OfForm table b form part operands) u
    form_like b (alternative h) = kept (λ v i. alternative i) (some_like b h)
    form_like b (taken h) = kept (λ v i. taken i) (level_like b h)
    form_like b left_out = empty_like left_out
    form_like b (parallel h) = kept (λ v i. parallel i) (all_like b h)
    form_like b (turns n l m h) = kept (λ v i. turns n l m i) (turns_like b h)
    form_like b (no_turns e l) = empty_like (no_turns e l)

    some_like : {a : Around} (b : Around) {operands : Bodies} {u : Unfolding} → OfSome table a operands u → HasAlike (OfSome table b operands) u
    some_like b (this h) = kept (λ v i. this i) (level_like b h)
    some_like b (that h) = kept (λ v i. that i) (some_like b h)

    all_like : {a : Around} (b : Around) {operands : Bodies} {u : Unfolding} → OfAll table a operands u → HasAlike (OfAll table b operands) u
    all_like b no_operand = empty_like no_operand
    all_like b (operand_and h k) = joined (λ v x i j. operand_and i j) (level_like b h) (all_like b k)

    turns_like : {a : Around} (b : Around) {operand : Body} {n : ℕ} {u : Unfolding} → OfTurns table a operand n u → HasAlike (OfTurns table b operand n) u
    turns_like b no_turn = empty_like no_turn
    turns_like b (turn_and h k) = joined (λ v x i j. turn_and i j) (level_like b h) (turns_like b k)

    expression_like : {g : GateMap} (f : GateMap) {e : Expression} {u : Unfolding} → OfExpression table g e u → HasAlike (OfExpression table f e) u
    expression_like f nothing = empty_like nothing
    expression_like f (chart e h) = kept (λ v i. chart e i) (woven_like f h)
    expression_like f (one_of h) = kept (λ v i. one_of i) (one_like f h)
    expression_like f (beside h) = kept (λ v i. beside i) (each_like f h)
    expression_like f (in_turn h) = kept (λ v i. in_turn i) (each_like f h)
    expression_like f (done h) = kept (λ v i. done i) (expression_like f h)
    expression_like f not_done = empty_like not_done
    expression_like f (rounds n l m h) = kept (λ v i. rounds n l m i) (rounds_like f h)
    expression_like f (no_rounds l) = empty_like (no_rounds l)

    one_like : {g : GateMap} (f : GateMap) {parts : Expressions} {u : Unfolding} → OfOne table g parts u → HasAlike (OfOne table f parts) u
    one_like f (this_part h) = kept (λ v i. this_part i) (expression_like f h)
    one_like f (that_part h) = kept (λ v i. that_part i) (one_like f h)

    each_like : {g : GateMap} (f : GateMap) {m : Mode} {parts : Expressions} {u : Unfolding} → OfEach table g m parts u → HasAlike (OfEach table f m parts) u
    each_like f no_part = empty_like no_part
    each_like f (part_and h k) = joined (λ v x i j. part_and i j) (expression_like f h) (each_like f k)

    rounds_like : {g : GateMap} (f : GateMap) {part : Expression} {n : ℕ} {u : Unfolding} → OfRounds table g part n u → HasAlike (OfRounds table f part n) u
    rounds_like f no_round = empty_like no_round
    rounds_like f (round_and h k) = joined (λ v x i j. round_and i j) (expression_like f h) (rounds_like f k)

    woven_like : {g : GateMap} (f : GateMap) {rs : List Refinement} {content : Woven} {u : Unfolding} → OfWoven table g rs content u → HasAlike (OfWoven table f rs content) u
    woven_like f (of_body h) = kept (λ v i. of_body i) (level_like (under f) h)
    woven_like f (of_refined {r = r} {rs = rs} {held = held} {pairs = pairs} {ends = ends} e h k) =
        let b : Around = refined_under f pairs (refinings table held (r ∷ rs)) in
        let i = items_like b h in
        let j = refinings_like (far_end ends b) k in
        record { other = bind (join par i.other j.other) _; is = of_refined e i.is j.is; alike = in_tie (in_join i.alike j.alike) }
    woven_like f (of_graph h) = record { other = _; is = of_graph h; alike = like_itself _ }

    refinings_like : {far : EventNode → Far} (other : EventNode → Far) {rs : List Refining} {u : Unfolding} → OfRefinings table far rs u → HasAlike (OfRefinings table other rs) u
    refinings_like other no_refining = empty_like no_refining
    refinings_like other (refining_and {ms = ms} e h k) =
        let i = items_like (refining_under other ms) h in
        let j = refinings_like other k in
        record { other = join par (bind i.other _) j.other; is = refining_and e i.is j.is; alike = in_join (in_tie i.alike) j.alike }
