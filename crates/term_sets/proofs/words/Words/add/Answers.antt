use Rattle.std.specs.HashSet.{contains}
use Rattle.std.proofs.Common.{◌≡◌, ◌∙◌, ap, sym, refl, true, false, nat_eq, nat_le}
use Rattle.std.proofs.lemmas.Bool.{not-true, not-false}
use Rattle.term_sets.proofs.Gaining.{added_met, added_new}
use Rattle.term_sets.proofs.words.Words.add.Goals as goal

pub returns : goal.returns
returns c =
    let free : contains nat_eq c.args.self.now.seen c.args.word ≡ false = not-true (contains nat_eq c.args.self.now.seen c.args.word) (sym c.in_ok-insert.ensures.added ∙ c.if-not-branch.false) in
    added_new c.args.self.now (record { list = c.push.new.self; seen = c.insert.new.self; room = c.args.self.now.room }) c.args.word (nat_le c.len.result c.args.self.now.room) c.requires.words free c.in_ok-insert.ensures.updates.0 c.in_ok-push.ensures.items refl (ap (λ n. nat_le n c.args.self.now.room) (c.len.ensures ∙ c.push.new.self.ok.0))

pub returns-then-not-branch : goal.returns-then-not-branch
returns-then-not-branch c =
    let met : contains nat_eq c.args.self.now.seen c.args.word ≡ true = not-false (contains nat_eq c.args.self.now.seen c.args.word) (sym c.in_ok-insert.ensures.added ∙ c.if-not-branch.true) in
    added_met c.args.self.now (record { list = c.args.self.now.list; seen = c.insert.new.self; room = c.args.self.now.room }) c.args.word c.requires.words c.requires.within met c.in_ok-insert.ensures.updates.0 refl refl
