use Rattle.std.proofs.Common.{◌≡◌, ◌+◌, ◌∙◌, sym, ap₂, subst, refl, arith, IfOk, ◌&&◌}
use Rattle.chart_term.specs.NormalForms.{numbers}
use Rattle.chart_term.specs.Terms.{Tree, Tied}
use Rattle.chart_term.specs.Views.{pairs_of}
use Rattle.term_permission.proofs.Retying.{goes_on, is_within, is_shorter, tied_none, tied_some, walk_drops, walk_ends, walk_keeps, walk_starts}
use Rattle.term_permission.proofs.ties.retied.Goals as goal

pub loop-at-init : goal.loop-at-init
loop-at-init c = walk_starts c.args.gone (numbers c.args.inner) c.args.pairs.now c.in_ok-kept.kept c.requires.shown c.in_ok-kept.ensures

pub at-pair-requires : goal.at-pair-requires
at-pair-requires c = is_within c.args.gone (numbers c.args.inner) c.args.pairs.now c.loop-at.kept c.loop-at.from c.in-Some.at c.loop-at.invariant (sym c.in-Some.is ∙ c.next_naming.ensures)

pub overflow_add-from : goal.overflow_add-from
overflow_add-from c =
    let w = is_within c.args.gone (numbers c.args.inner) c.args.pairs.now c.loop-at.kept c.loop-at.from c.in-Some.at c.loop-at.invariant (sym c.in-Some.is ∙ c.next_naming.ensures) in
    omega (arith, w, c.len-count.ensures)

pub loop-at-smaller-then-has_number : goal.loop-at-smaller-then-has_number
loop-at-smaller-then-has_number c =
    let w = is_within c.args.gone (numbers c.args.inner) c.args.pairs.now c.loop-at.kept c.loop-at.from c.in-Some.at c.loop-at.invariant (sym c.in-Some.is ∙ c.next_naming.ensures) in
    let g = goes_on c.args.gone (numbers c.args.inner) c.args.pairs.now c.loop-at.kept c.loop-at.from c.in-Some.at c.loop-at.invariant (sym c.in-Some.is ∙ c.next_naming.ensures) in
    omega (arith, w, g)

pub loop-at-preserved-then-has_number : goal.loop-at-preserved-then-has_number
loop-at-preserved-then-has_number c =
    walk_keeps c.args.gone (numbers c.args.inner) c.args.pairs.now c.loop-at.kept c.loop-at.from c.in-Some.at c.loop-at.invariant (sym c.in-Some.is ∙ c.next_naming.ensures) c.at-pair.result (c.in-Some.at + 1) c.at-pair.ensures
    (ap₂ (λ a b. a && b) (sym c.has_number.ensures) (sym c.has_number-in-Some.ensures) ∙ c.if-has_number.true) (omega arith)

pub remove-requires : goal.remove-requires
remove-requires c = is_within c.args.gone (numbers c.args.inner) c.args.pairs.now c.loop-at.kept c.loop-at.from c.in-Some.at c.loop-at.invariant (sym c.in-Some.is ∙ c.next_naming.ensures)

pub loop-at-smaller : goal.loop-at-smaller
loop-at-smaller c =
    let w = is_within c.args.gone (numbers c.args.inner) c.args.pairs.now c.loop-at.kept c.loop-at.from c.in-Some.at c.loop-at.invariant (sym c.in-Some.is ∙ c.next_naming.ensures) in
    let g = goes_on c.args.gone (numbers c.args.inner) c.args.pairs.now c.loop-at.kept c.loop-at.from c.in-Some.at c.loop-at.invariant (sym c.in-Some.is ∙ c.next_naming.ensures) in
    let s = is_shorter c.args.gone (numbers c.args.inner) c.args.pairs.now c.loop-at.kept c.loop-at.from c.in-Some.at c.loop-at.invariant (sym c.in-Some.is ∙ c.next_naming.ensures) c.in_ok-kept-2.kept c.in_ok-kept-2.ensures in
    omega (arith, w, g, s)

pub loop-at-preserved : goal.loop-at-preserved
loop-at-preserved c =
    walk_drops c.args.gone (numbers c.args.inner) c.args.pairs.now c.loop-at.kept c.loop-at.from c.in-Some.at c.loop-at.invariant (sym c.in-Some.is ∙ c.next_naming.ensures) c.at-pair.result c.in_ok-kept-2.kept c.at-pair.ensures
    (ap₂ (λ a b. a && b) (sym c.has_number.ensures) (sym c.has_number-in-Some.ensures) ∙ c.if-has_number.false) c.in_ok-kept-2.ensures

pub returns-then-is_empty : goal.returns-then-is_empty
returns-then-is_empty c =
    tied_none c.args.inner c.args.inner c.args.pairs.now c.loop-at.kept c.requires.once (walk_ends c.args.gone (numbers c.args.inner) c.args.pairs.now c.loop-at.kept c.loop-at.from c.loop-at.invariant (sym c.in_default.is ∙ c.next_naming.ensures))
    (sym c.if-is_empty.true ∙ c.is_empty.ensures) refl

pub returns : goal.returns
returns c =
    subst (λ (x : Tree). IfOk c.tie_of.result (λ term. term ≡ x))
    (tied_some c.args.inner (Tied c.args.inner (pairs_of c.loop-at.kept)) c.args.pairs.now c.loop-at.kept c.requires.once (walk_ends c.args.gone (numbers c.args.inner) c.args.pairs.now c.loop-at.kept c.loop-at.from c.loop-at.invariant (sym c.in_default.is ∙ c.next_naming.ensures))
    (sym c.if-is_empty.false ∙ c.is_empty.ensures) refl)
    c.tie_of.ensures
