use Rattle.std.proofs.Common.{ℕ, Option, sym, subst}
use Rattle.msc_tree.specs.declared.reference.InlineForm.{InlineForm}
use Rattle.expanded_charts.specs.Expanding.{inline_by, one_of, turns}
use Rattle.expanded_charts.specs.Making.{IsMade, IsMadeOf}
use Rattle.expanded_charts.proofs.parts.of_form.Goals as goal

pub returns-in-Alt : goal.returns-in-Alt
returns-in-Alt c = λ part l u. subst (λ (f : InlineForm). IsMadeOf (inline_by f part c.args.first) c.args.operands c.one_of.result) (sym c.in-Alt.is) c.one_of.ensures

pub returns-in_ok-made-in-Opt : goal.returns-in_ok-made-in-Opt
returns-in_ok-made-in-Opt c = λ part l u.
    subst (λ (f : InlineForm). IsMadeOf (inline_by f part c.args.first) c.args.operands c.in_ok-made-in-Opt.made) (sym c.in-Opt.is) (λ old new ps h. c.in_ok-made-in-Opt.ensures old new (one_of ps) (c.one_of-in-Opt.ensures old new ps h))

pub returns-in-Par : goal.returns-in-Par
returns-in-Par c = λ part l u. subst (λ (f : InlineForm). IsMadeOf (inline_by f part c.args.first) c.args.operands c.aside.result) (sym c.in-Par.is) c.aside.ensures

pub returns-in_ok-made-in-Exc : goal.returns-in_ok-made-in-Exc
returns-in_ok-made-in-Exc c = λ part l u.
    subst (λ (f : InlineForm). IsMadeOf (inline_by f part c.args.first) c.args.operands c.in_ok-made-in-Exc.made) (sym c.in-Exc.is) (λ old new ps h. c.in_ok-made-in-Exc.ensures old new (one_of ps) (c.one_of-in-Exc.ensures old new ps h))

pub returns-in_ok-made-in-Loop : goal.returns-in_ok-made-in-Loop
returns-in_ok-made-in-Loop c = λ part l u.
    subst (λ (f : InlineForm). IsMadeOf (inline_by f part c.args.first) c.args.operands c.in_ok-made-in-Loop.made) (sym c.in-Loop.is)
    (λ old new ps h. subst (λ (n : ℕ). IsMade old new (turns c.args.first n part.upper (one_of ps)) c.in_ok-made-in-Loop.made) (sym l)
    (subst (λ (o : Option ℕ). IsMade old new (turns c.args.first c.args.lower o (one_of ps)) c.in_ok-made-in-Loop.made) (sym u) (c.in_ok-made-in-Loop.ensures old new (one_of ps) (c.one_of-in-Loop.ensures old new ps h))))
