use Rattle.std.proofs.Common.{rules, ◌≡◌, ◌<◌, ◌≤◌, ◌+◌, ◌++◌, ◌∷◌, [], arith, drop, take, get_or, length, slice_get, Some, ◌∙◌, append-nil}
use Rattle.std.proofs.lemmas.List.{drop_more, drop_all, take_more, get_or_default, length-take-le}
use Rattle.std.proofs.lemmas.Option.{slice_get_read}
use Rattle.std.specs.Vec.{vec_len}
use Rattle.column_order.specs.declared.edge.Edge.{Edge}
use Rattle.column_order.specs.Counts.{targets}
use Rattle.column_order.specs.Pairing.{count, pair_with, pairs_behind}
use Rattle.column_order.proofs.Ends.{pairs_exact, pairs_rise, pairs_step, count_le, count_step}
use Rattle.column_order.proofs.pairing.pair_up.Goals as goal

pub overflow_add-index_mut : goal.overflow_add-index_mut
overflow_add-index_mut c =
    let outs = c.args.outs.now in
    let i = c.loop-end.end-index in
    let e0 : Edge = record { from = 0; to = 0 } in
    let e = get_or outs i e0 in
    let cs = c.loop-end.taken.items in
    let lt : e.from < c.args.classes = c.requires.outs i e0 (omega arith) in
    let lt' : e.from < length cs = search rules in
    let is : c.index_mut.result.now ≡ get_or cs e.from 0 = c.index_mut.ensures.value ∙ get_or_default cs e.from c.index_mut.result.now 0 lt' in
    let counted : get_or cs e.from 0 ≡ count e.from (take i outs) = c.loop-end.invariant.taken e.from lt in
    let few : count e.from (take i outs) ≤ length (take i outs) = count_le e.from (take i outs) in
    let long : length (take i outs) ≡ i = length-take-le i outs (omega arith) in
    omega (arith, is, counted, few, long)

pub loop-end-preserved : goal.loop-end-preserved
loop-end-preserved c =
    let outs = c.args.outs.now in
    let i = c.loop-end.end-index in
    let e0 : Edge = record { from = 0; to = 0 } in
    let e = get_or outs i e0 in
    let cs = c.loop-end.taken.items in
    let lt : e.from < c.args.classes = c.requires.outs i e0 (omega arith) in
    let lt' : e.from < length cs = search rules in
    let is : c.index_mut.result.now ≡ get_or cs e.from 0 = c.index_mut.ensures.value ∙ get_or_default cs e.from c.index_mut.result.now 0 lt' in
    let counted : get_or cs e.from 0 ≡ count e.from (take i outs) = c.loop-end.invariant.taken e.from lt in
    let more : take (i + 1) outs ≡ take i outs ++ e ∷ [] = take_more outs i e0 (omega arith) in
    let many : vec_len c.in_ok-inputs.inputs ≡ c.args.classes = search rules in
    let at : slice_get c.in_ok-inputs.inputs.items e.from ≡ Some c.index.result.now = slice_get_read c.in_ok-inputs.inputs.items c.args.classes e.from c.index.result.now (search rules) lt c.index.ensures in
    let listed : c.index.result.now.items ≡ targets c.args.ins.now e.from = c.in_ok-inputs.ensures.targets e.from c.index.result.now at in
    let list : c.deref.result.now ≡ targets c.args.ins.now e.from = c.deref.ensures.value ∙ listed in
    let read : c.index-in-loop-end.result.now ≡ get_or cs e.from 0 = c.index-in-loop-end.ensures ∙ get_or_default cs e.from c.index-in-loop-end.result.now 0 lt' in
    let before : c.index-in-loop-end.result.now ≡ count e.from (take i outs) = read ∙ counted in
    let made : c.push_pair.new.pairs.items ≡ c.loop-end.pairs.items ++ pair_with e.to (slice_get c.deref.result.now c.index-in-loop-end.result.now) = search rules in
    let pushed : c.push_pair.new.pairs.items ≡ c.loop-end.pairs.items ++ pair_with e.to (slice_get (targets c.args.ins.now e.from) (count e.from (take i outs))) = rw (list, before) at made in
    record {
      pairs = pairs_step outs c.args.ins.now c.loop-end.pairs.items c.push_pair.new.pairs.items i e (drop_more outs i e0 (omega arith)) more pushed c.loop-end.invariant.pairs;
      len = search rules;
      taken = λ x b. rw (is, more) (count_step cs e (take i outs) x lt' (c.loop-end.invariant.taken x b));
    }

pub returns-clause-pairs : goal.returns-clause-pairs
returns-clause-pairs c =
    let outs = c.args.outs.now in
    let none : drop c.loop-end.end-index outs ≡ [] = drop_all c.loop-end.end-index outs (omega arith) in
    let are : c.loop-end.pairs.items ≡ pairs_behind [] outs c.args.ins.now = rw (none, append-nil) at c.loop-end.invariant.pairs in
    λ p q. rw are (pairs_exact outs c.args.ins.now p q)

pub returns-clause-rising : goal.returns-clause-rising
returns-clause-rising c =
    let outs = c.args.outs.now in
    let none : drop c.loop-end.end-index outs ≡ [] = drop_all c.loop-end.end-index outs (omega arith) in
    let are : c.loop-end.pairs.items ≡ pairs_behind [] outs c.args.ins.now = rw (none, append-nil) at c.loop-end.invariant.pairs in
    λ h. rw are (pairs_rise 0 [] outs c.args.ins.now h)
