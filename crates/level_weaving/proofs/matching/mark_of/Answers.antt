use Rattle.std.proofs.Common.{rules, ◌≡◌, ◌++◌, ◌∷◌, [], Some, Bool, if◌then◌else◌, ◌∙◌}
use Rattle.std.specs.List.{position_or_len, list_any}
use Rattle.level_weaving.specs.Messages.{way, key_of}
use Rattle.level_weaving.specs.EventViews.{event_view}
use Rattle.level_weaving.specs.Marks.{key_view}
use Rattle.level_weaving.specs.declared.matching.MessageKey.{MessageKey}
use Rattle.level_weaving.specs.contracts.matching.MessageKeyPartialEq.TheImpl.{eq-value}
use Rattle.level_weaving.proofs.MarkLaws.{inserted_number, passes_itself}
use Rattle.level_pieces.proofs.Positions.{position_inserted}
use Rattle.level_weaving.proofs.matching.mark_of.Goals as goal

pub returns-clause-mark : goal.returns-clause-mark
returns-clause-mark c =
    let goes : way (event_view c.args.placed) ≡ Some c.in-Some.direction = search rules in
    let key = c.in_ok-key.key in
    let same : key_view key ≡ key_of (event_view c.args.placed) = search rules in
    let test : MessageKey → Bool = eq-value.it key in
    let number : c.in_ok-class.class ≡ c.in_ok-number.number = search rules in
    let index : c.in_ok-class.class ≡ position_or_len test c.args.keys.now.keys = number ∙ c.in_ok-number.ensures.index in
    let keys : c.insert_full.new.self.keys ≡ (if list_any test c.args.keys.now.keys then c.args.keys.now.keys else c.args.keys.now.keys ++ key ∷ []) = c.in_ok-number.ensures.keys in
    let at = position_inserted test c.args.keys.now.keys key c.in_ok-class.class c.insert_full.new.self.keys (passes_itself key) index keys in
    (goes, inserted_number c.insert_full.new.self.keys key (key_of (event_view c.args.placed)) c.in_ok-class.class same at)
