use Rattle.std.proofs.Common.{◌≡◌, ◌-◌, Some, arith, get_or, length, refl, slice_get, suc}
use Rattle.std.proofs.lemmas.Option.{slice_get-get_or, slice_get_read}
use Rattle.log_ways.proofs.Returning.{back_alone, back_begins, back_comes, back_known, back_on, back_there, back_whole}
use Rattle.log_ways.proofs.log_way.way_back.Goals as goal
use Rattle.term_sets.proofs.Gathering.{all_placed, all_ready}
use Rattle.term_sets.specs.Memories.{set_at}

pub loop-at-init : goal.loop-at-init
loop-at-init c = record {
  within = omega arith;
  back = back_begins c.args.nets.now c.args.history.now.memory.sets c.args.numbers.now c.args.history.now.sets.items (length c.args.numbers.now) refl c.args.found c.from-back.result c.requires.found c.from-back.ensures;
}

pub go_back-requires-clause-from : goal.go_back-requires-clause-from
go_back-requires-clause-from c =
    let v = c.args.nets.now in
    let sets = c.args.history.now.memory.sets in
    let trail = c.args.history.now.sets.items in
    let ns = c.args.numbers.now in
    let i = c.loop-at.at - 1 in
    let n = get_or ns i 0 in
    let s = c.index.result.now in
    let is : suc i ≡ c.loop-at.at = omega arith in
    let number : slice_get ns i ≡ Some n = slice_get-get_or ns i 0 (omega arith) in
    let set : slice_get trail i ≡ Some s = slice_get_read trail (length trail) i s refl (let l = c.requires.trail.long in omega arith) c.index.ensures in
    c.requires.trail.there i s set

pub go_back-requires-clause-terms : goal.go_back-requires-clause-terms
go_back-requires-clause-terms c = all_ready c.args.nets.now (set_at c.args.history.now.memory.sets c.index.result.now) (c.requires.sound c.index.result.now)

pub go_back-requires-clause-placed : goal.go_back-requires-clause-placed
go_back-requires-clause-placed c = all_placed c.args.nets.now (set_at c.args.history.now.memory.sets c.index.result.now) (c.requires.sound c.index.result.now)

pub go_back-requires-clause-known : goal.go_back-requires-clause-known
go_back-requires-clause-known c =
    let v = c.args.nets.now in
    let sets = c.args.history.now.memory.sets in
    let trail = c.args.history.now.sets.items in
    let ns = c.args.numbers.now in
    let i = c.loop-at.at - 1 in
    let n = get_or ns i 0 in
    let s = c.index.result.now in
    let is : suc i ≡ c.loop-at.at = omega arith in
    let number : slice_get ns i ≡ Some n = slice_get-get_or ns i 0 (omega arith) in
    let set : slice_get trail i ≡ Some s = slice_get_read trail (length trail) i s refl (let l = c.requires.trail.long in omega arith) c.index.ensures in
    back_known v sets c.args.term.now ns trail c.requires.trail c.requires.labelled c.loop-at.at i n s is number set c.loop-at.back c.loop-at.invariant.back

pub go_back-requires-clause-comes : goal.go_back-requires-clause-comes
go_back-requires-clause-comes c =
    let v = c.args.nets.now in
    let sets = c.args.history.now.memory.sets in
    let trail = c.args.history.now.sets.items in
    let ns = c.args.numbers.now in
    let i = c.loop-at.at - 1 in
    let n = get_or ns i 0 in
    let s = c.index.result.now in
    let is : suc i ≡ c.loop-at.at = omega arith in
    let number : slice_get ns i ≡ Some n = slice_get-get_or ns i 0 (omega arith) in
    let set : slice_get trail i ≡ Some s = slice_get_read trail (length trail) i s refl (let l = c.requires.trail.long in omega arith) c.index.ensures in
    back_comes v sets c.args.term.now ns trail c.requires.trail c.requires.labelled c.loop-at.at i n s is number set c.loop-at.back c.loop-at.invariant.back

pub go_back-requires-clause-alone : goal.go_back-requires-clause-alone
go_back-requires-clause-alone c =
    let v = c.args.nets.now in
    let sets = c.args.history.now.memory.sets in
    let trail = c.args.history.now.sets.items in
    let ns = c.args.numbers.now in
    let i = c.loop-at.at - 1 in
    let n = get_or ns i 0 in
    let s = c.index.result.now in
    let is : suc i ≡ c.loop-at.at = omega arith in
    let number : slice_get ns i ≡ Some n = slice_get-get_or ns i 0 (omega arith) in
    let set : slice_get trail i ≡ Some s = slice_get_read trail (length trail) i s refl (let l = c.requires.trail.long in omega arith) c.index.ensures in
    back_alone v sets c.args.term.now ns trail c.requires.trail c.requires.labelled c.loop-at.at i n s is number set c.loop-at.back c.loop-at.invariant.back

pub loop-at-preserved : goal.loop-at-preserved
loop-at-preserved c =
    let v = c.args.nets.now in
    let sets = c.args.history.now.memory.sets in
    let trail = c.args.history.now.sets.items in
    let ns = c.args.numbers.now in
    let i = c.loop-at.at - 1 in
    let n = get_or ns i 0 in
    let s = c.index.result.now in
    let is : suc i ≡ c.loop-at.at = omega arith in
    let number : slice_get ns i ≡ Some n = slice_get-get_or ns i 0 (omega arith) in
    let set : slice_get trail i ≡ Some s = slice_get_read trail (length trail) i s refl (let l = c.requires.trail.long in omega arith) c.index.ensures in
    record {
      within = omega arith;
      back = back_on v sets c.args.term.now ns trail c.requires.trail c.requires.labelled c.loop-at.at i n s is number set c.loop-at.back c.loop-at.invariant.back c.go_back.new.self c.in_ok-go_back.ensures;
    }

pub invariant_of-result : goal.invariant_of-result
invariant_of-result c =
    back_there c.args.nets.now c.args.history.now.memory.sets c.args.term.now c.args.numbers.now c.args.history.now.sets.items c.requires.trail c.loop-at.at (omega arith) c.loop-at.back c.loop-at.invariant.back c.reverse.new.self.items c.reverse.ensures.items

pub returns : goal.returns
returns c =
    back_whole c.args.nets.now c.args.history.now.memory.sets c.args.term.now c.args.numbers.now c.args.history.now.sets.items c.requires.trail c.loop-at.at (omega arith) c.loop-at.back c.loop-at.invariant.back c.reverse.new.self.items c.reverse.ensures.items
