use Rattle.std.proofs.Common.{rules, ◌≡◌, ◌||◌, refl, ap, ap₂, ◌∙◌}
use Rattle.msc_meaning.specs.Tables.{Table}
use Rattle.msc_meaning.specs.Views.{table_view}
use Rattle.gate_rules.specs.Callers.{caller_view}
use Rattle.gate_rules.specs.GateRules.{Caller, breaks, is_empty, is_looped, is_several, is_split, lacks_own}
use Rattle.gate_rules.specs.KnownGates.{ends_found, ends_view, lacks, some_end, ways_by, with_facts}
use Rattle.gate_rules.proofs.FactLaws.{called_by_facts, lacks_is, looped_is, several_is, split_is, ways_is}
use Rattle.gate_rules.proofs.JudgingLaws.{each_rule}
use Rattle.gate_rules.proofs.judging.broken_by.Goals as goal

pub returns : goal.returns
returns c = λ held known.
    let table : Table = table_view c.args.table.charts.now in
    let caller : Caller = caller_view c.args.caller in
    let ends : ends_view c.ends_of-ends.result ≡ ends_found table held caller = c.ends_of-ends.ensures table held known in
    let own : c.in_ok-lacks.lacks ≡ lacks_own table caller = search rules in
    each_rule (record { no_gate = c.either.result; twice = c.are_several.result; ways = c.ways_differ.result; split = c.are_split.result; on_loop = c.are_looped.result }) (λ r. breaks table held r caller)
    (c.either.ensures ∙ ap₂ (λ a b. a || b) (c.lack.ensures ∙ (ap (some_end lacks) ends ∙ called_by_facts table held is_empty lacks refl lacks_is caller)) own)
    (c.are_several.ensures ∙ (ap (some_end (with_facts (λ f. f.several))) ends ∙ called_by_facts table held is_several (with_facts (λ f. f.several)) refl several_is caller))
    (c.ways_differ.ensures ∙ (ap (ways_by caller) ends ∙ ways_is table held caller))
    (c.are_split.ensures ∙ (ap (some_end (with_facts (λ f. f.apart))) ends ∙ called_by_facts table held is_split (with_facts (λ f. f.apart)) refl split_is caller))
    (c.are_looped.ensures ∙ (ap (some_end (with_facts (λ f. f.looped))) ends ∙ called_by_facts table held is_looped (with_facts (λ f. f.looped)) refl looped_is caller))
