use Rattle.std.proofs.Common.{Option, ◌∙◌, ap}
use Rattle.msc_base.specs.Places.{earliest}
use Rattle.msc_base.specs.declared.place.Place.{Place}
use Rattle.gate_rules.proofs.UseLaws.{entry_at, used_more}
use Rattle.gate_rules.proofs.claims.Uses.add.Goals as goal

pub returns : goal.returns
returns c = λ x.
    ap (entry_at x) c.in_ok-insert.ensures.entries
    ∙ used_more c.args.key c.args.place c.earlier-earliest.result x c.args.self.now.held.entries (c.earlier-earliest.ensures ∙ ap (λ (o : Option Place). earliest o c.args.place) c.first.ensures)
