use Rattle.std.proofs.Common.{◌≡◌, ◌+◌, None, ap, subst, ◌∙◌, is_some, if◌then◌else◌}
use Rattle.std.specs.BTreeMap.{btree_map_len}
use Rattle.label_table.specs.Keys.{text_number}
use Rattle.label_table.proofs.TextNumbering.{kept, are_numbers}
use Rattle.label_table.proofs.texts.add_text.Goals as goal

-- the text got the number, and the others kept theirs
pub returns-clause-kept : goal.returns-clause-kept
returns-clause-kept c =
    kept c.args.texts.now c.insert.new.self c.in_ok-text.text c.len-number.result c.in_ok-insert.ensures.updates
    (ap (text_number c.args.texts.now) c.in_ok-text.ensures.items ∙ c.requires.new)

pub returns-clause-numbers : goal.returns-clause-numbers
returns-clause-numbers c =
    let old = c.args.texts.now in
    let new = c.insert.new.self in
    let none : c.in_ok-insert.field-0 ≡ None = c.in_ok-insert.ensures.old ∙ ap (text_number old) c.in_ok-text.ensures.items ∙ c.requires.new in
    are_numbers old new c.in_ok-text.text c.len-number.result c.in_ok-insert.ensures.updates
    c.requires.numbers c.len-number.ensures.len
    (subst (λ o. btree_map_len new ≡ btree_map_len old + (if is_some o then 0 else 1)) none c.in_ok-insert.ensures.len)
