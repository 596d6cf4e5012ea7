use Rattle.std.proofs.Common.{◌≡◌, ◌∙◌, rules, Bool, None, true, false, sym, ap, option_map, if◌then◌else◌}
use Rattle.std.specs.List.{list_any}
use Rattle.msc_meaning.specs.Calls.{is_call_of}
use Rattle.msc_meaning.specs.FarEnds.{Gates, end_at}
use Rattle.gate_tables.specs.CalledEnds.{end_of}
use Rattle.gate_tables.specs.FactViews.{seen_view}
use Rattle.gate_tables.specs.NamedMaps.{named_gate}
use Rattle.gate_tables.proofs.CalledEnds.{end_found, mapped_twice}
use Rattle.gate_tables.proofs.level.LevelGates.end.Goals as goal

pub returns-then-not-is_called : goal.returns-then-not-is_called
returns-then-not-is_called c =
    let name = c.args.name.now in
    let gate = c.args.gate.now in
    let at = named_gate c.self.inside.facts in
    let called : list_any (is_call_of name gate) c.self.inside.calls ≡ false = search rules in
    sym (ap (λ (g : Gates). end_at g.ends name gate) (sym c.self.view_is) ∙ end_found at c.self.inside.calls name gate
    ∙ ap (λ (b : Bool). if b then option_map (end_of name gate) (at name gate) else None) called)

pub returns : goal.returns
returns c =
    let name = c.args.name.now in
    let gate = c.args.gate.now in
    let at = named_gate c.self.inside.facts in
    let called : list_any (is_call_of name gate) c.self.inside.calls ≡ true = search rules in
    mapped_twice (end_of name gate) seen_view c.at.result ∙ ap (option_map (end_of name gate)) c.at.ensures
    ∙ sym (ap (λ (g : Gates). end_at g.ends name gate) (sym c.self.view_is) ∙ end_found at c.self.inside.calls name gate
    ∙ ap (λ (b : Bool). if b then option_map (end_of name gate) (at name gate) else None) called)
