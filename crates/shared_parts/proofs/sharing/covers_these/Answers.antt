use Rattle.std.proofs.Common.{rules, ◌≡◌, ◌∙◌, IsTrue, List, Some, ℕ, ap, length, option_copied, subst, sym}
use Rattle.msc_instances.proofs.Meeting.{retold}
use Rattle.msc_meaning.specs.LevelItems.{cover_by}
use Rattle.shared_parts.specs.Sharing.{HaveSame}
use Rattle.shared_parts.proofs.CoverLaws.{listed_covers}
use Rattle.shared_parts.proofs.sharing.covers_these.Goals as goal

pub returns-else-not-known : goal.returns-else-not-known
returns-else-not-known c = λ level leads i k.
    retold c.same_sets.result (λ same. IsTrue same → HaveSame c.as_slice.result.now c.as_slice-in-Some-Listed.result.now) (λ same. IsTrue same → cover_by level leads (Some i) (option_copied c.args.shared) ≡ c.args.cover.now)
    (λ same h t. listed_covers level leads c.as_slice.result.now c.args.cover.now i (option_copied c.args.shared)
    (search (rules, c.in-Some-Listed.names-is, c.in-Some-Listed.field-0-is, c.in-Some-Listed.is))
    (λ e. c.if-len-eq0.false (c.len.ensures ∙ sym (ap length c.as_slice.ensures) ∙ e)) (k.kept c.if-not-known.false) (subst (λ (l : List (List ℕ)). HaveSame c.as_slice.result.now l) c.as_slice-in-Some-Listed.ensures (h t)))
    c.same_sets.ensures
