use Rattle.std.proofs.Common.{◌≡◌, List, Some, slice_get, subst, sym}
use Rattle.chart_term.specs.Terms.{Tree}
use Rattle.log_ways.proofs.Stepped.{back_more, placed_read, places_more, same_step}
use Rattle.log_ways.proofs.log_way.Back.go_back.Goals as goal
use Rattle.log_ways.specs.Stepping.{IsAlone}
use Rattle.msc_base.specs.Lists.{IsAmong}
use Rattle.term_sets.specs.Memories.{set_at}

pub returns : goal.returns
returns c terms numbers h =
    let w = c.args.nets.now.tables in
    let sets = c.args.memory.now.sets in
    let k = c.index-known.result.now in
    let ks = c.step_to.new.self.known.items in
    let at : slice_get ks c.in_ok-place.place ≡ Some k = placed_read w c.args.label (set_at sets c.args.from) c.args.self.now.goal.term ks c.in_ok-place.place k c.in_ok-place.ensures.place c.index-known.ensures in
    back_more w sets terms (set_at sets c.args.from) c.args.label numbers c.args.self.now (record { steps = c.step_to.new.self; places = c.push.new.self; goal = record { term = c.in_ok-term.term; index = k.index; alone = c.is_alone-alone.result } }) c.in_ok-place.place k h
    c.in_ok-place.ensures.known c.in_ok-place.ensures.gains at (same_step w c.args.label (set_at sets c.args.from) c.args.self.now.goal.term ks c.in_ok-place.place k at c.in_ok-place.ensures.place) (places_more c.args.self.now.places.items c.push.new.self.items c.in_ok-place.place c.in_ok-push.ensures.items)
    c.in_ok-term.ensures (λ e. subst (λ (t : List Tree). IsAlone t c.in_ok-term.term) c.set.ensures (c.is_alone-alone.ensures e))

pub is_alone-alone-requires : goal.is_alone-alone-requires
is_alone-alone-requires c =
    let w = c.args.nets.now.tables in
    let sets = c.args.memory.now.sets in
    let k = c.index-known.result.now in
    let ks = c.step_to.new.self.known.items in
    let at : slice_get ks c.in_ok-place.place ≡ Some k = placed_read w c.args.label (set_at sets c.args.from) c.args.self.now.goal.term ks c.in_ok-place.place k c.in_ok-place.ensures.place c.index-known.ensures in
    let step = same_step w c.args.label (set_at sets c.args.from) c.args.self.now.goal.term ks c.in_ok-place.place k at c.in_ok-place.ensures.place in
    subst (λ (t : List Tree). IsAmong t c.in_ok-term.term) (sym c.set.ensures) (subst (IsAmong (set_at sets c.args.from)) (sym c.in_ok-term.ensures) step.among)
