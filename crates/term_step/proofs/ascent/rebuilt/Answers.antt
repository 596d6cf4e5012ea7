use Rattle.std.proofs.Common.{rules, ◌≡◌, ◌∙◌, ◌-◌, sym, subst, ap₂, arith, List, Some, length, slice_get, take, drop, refl}
use Rattle.std.proofs.lemmas.List.{take_all}
use Rattle.std.proofs.lemmas.Option.{slice_get_read}
use Rattle.term_step.specs.declared.ascent.Frame.{Frame}
use Rattle.chart_term.specs.Terms.{Tree, Event, Nil}
use Rattle.chart_term.specs.Views.{event_of}
use Rattle.term_laws.specs.Permission.{permits_of}
use Rattle.term_step.specs.Kept.{AreKept, top}
use Rattle.term_step.specs.Searches.{put_all}
use Rattle.term_step.proofs.KeptNumbers.{event_kept, kept_child, linked_at, top_at, top_none}
use Rattle.term_step.proofs.Rebuilding.{frame-ready, put-is-ready, rebuilt-more, rebuilt-none}
use Rattle.term_step.proofs.ascent.rebuilt.Goals as goal

pub put-requires-clause-parent : goal.put-requires-clause-parent
put-requires-clause-parent c =
    let there : slice_get c.args.path.now.items (c.loop-index.index - 1) ≡ Some c.index-frame.result.now = slice_get_read c.args.path.now.items (length c.args.path.now.items) (c.loop-index.index - 1) c.index-frame.result.now refl (omega arith) c.index-frame.ensures in
    (frame-ready c.args.nets.now.tables c.args.path.now.items (c.loop-index.index - 1) c.index-frame.result.now c.requires.path there).0

pub put-requires-clause-index : goal.put-requires-clause-index
put-requires-clause-index c =
    let there : slice_get c.args.path.now.items (c.loop-index.index - 1) ≡ Some c.index-frame.result.now = slice_get_read c.args.path.now.items (length c.args.path.now.items) (c.loop-index.index - 1) c.index-frame.result.now refl (omega arith) c.index-frame.ensures in
    (frame-ready c.args.nets.now.tables c.args.path.now.items (c.loop-index.index - 1) c.index-frame.result.now c.requires.path there).1

pub put-requires-clause-kept : goal.put-requires-clause-kept
put-requires-clause-kept c =
    let there : slice_get c.args.path.now.items (c.loop-index.index - 1) ≡ Some c.index-frame.result.now = slice_get_read c.args.path.now.items (length c.args.path.now.items) (c.loop-index.index - 1) c.index-frame.result.now refl (omega arith) c.index-frame.ensures in
    kept_child (permits_of c.args.nets.now.tables) c.loop-index.gone c.index-frame.result.now.parent c.index-frame.result.now.index (top (drop c.loop-index.index c.args.path.now.items) (Event (event_of c.args.taken.now.event))) c.loop-index.left
    (linked_at (permits_of c.args.nets.now.tables) c.args.path.now.items (Event (event_of c.args.taken.now.event)) (c.loop-index.index - 1) c.loop-index.index c.index-frame.result.now c.requires.linked there (omega arith)) c.loop-index.invariant.kept

pub loop-index-init : goal.loop-index-init
loop-index-init c =
    let long : c.len-index.result ≡ length c.args.path.now.items = search rules in
    let all : take c.len-index.result c.args.path.now.items ≡ c.args.path.now.items = take_all c.len-index.result c.args.path.now.items (omega (arith, long)) in
    record {
      within = search rules;
      ready = search rules;
      whole = ap₂ (λ (fs : List Frame) (x : Tree). put_all (permits_of c.args.nets.now.tables) (event_of c.args.taken.now.event) fs x) (sym all) (sym c.in_ok-left.ensures);
      kept =
          subst (λ (y : Tree). AreKept c.of-gone.result y c.in_ok-left.left) (sym (top_none c.args.path.now.items (Event (event_of c.args.taken.now.event)) c.len-index.result long))
          (event_kept (event_of c.args.taken.now.event) c.of-gone.result c.in_ok-left.left c.of-gone.ensures);
    }

pub loop-index-preserved : goal.loop-index-preserved
loop-index-preserved c =
    let there : slice_get c.args.path.now.items (c.loop-index.index - 1) ≡ Some c.index-frame.result.now = slice_get_read c.args.path.now.items (length c.args.path.now.items) (c.loop-index.index - 1) c.index-frame.result.now refl (omega arith) c.index-frame.ensures in
    let r = (frame-ready c.args.nets.now.tables c.args.path.now.items (c.loop-index.index - 1) c.index-frame.result.now c.requires.path there) in
    record {
      within = omega arith;
      ready = put-is-ready c.args.nets.now.tables c.requires.tables (event_of c.args.taken.now.event) c.index-frame.result.now.parent c.index-frame.result.now.index c.loop-index.left c.in-Some.term r.0 r.1 c.loop-index.invariant.ready (sym c.in-Some.is ∙ c.in_ok-term.ensures.whole);
      whole =
          rebuilt-more (permits_of c.args.nets.now.tables) (event_of c.args.taken.now.event) c.args.path.now.items (c.loop-index.index - 1) c.loop-index.index c.index-frame.result.now c.loop-index.left c.in-Some.term (put_all (permits_of c.args.nets.now.tables) (event_of c.args.taken.now.event) c.args.path.now.items Nil) there
          (omega arith) c.loop-index.invariant.whole (sym c.in-Some.is ∙ c.in_ok-term.ensures.whole);
      kept =
          let new = rw c.in-Some.is at c.in_ok-term.ensures.kept in
          subst (λ (y : Tree). AreKept c.put.new.gone y c.in-Some.term) (sym (top_at c.args.path.now.items (Event (event_of c.args.taken.now.event)) (c.loop-index.index - 1) c.index-frame.result.now there)) new;
    }

pub returns-in-None-clause-left : goal.returns-in-None-clause-left
returns-in-None-clause-left c =
    let there : slice_get c.args.path.now.items (c.loop-index.index - 1) ≡ Some c.index-frame.result.now = slice_get_read c.args.path.now.items (length c.args.path.now.items) (c.loop-index.index - 1) c.index-frame.result.now refl (omega arith) c.index-frame.ensures in
    rebuilt-none (permits_of c.args.nets.now.tables) (event_of c.args.taken.now.event) c.args.path.now.items (c.loop-index.index - 1) c.loop-index.index c.index-frame.result.now c.loop-index.left (put_all (permits_of c.args.nets.now.tables) (event_of c.args.taken.now.event) c.args.path.now.items Nil) there
    (omega arith) c.loop-index.invariant.whole (sym c.in-None.is ∙ c.in_ok-term.ensures.whole)
