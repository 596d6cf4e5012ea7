use Rattle.std.proofs.Common.{rules, ◌≡◌, ◌++◌, ◌∷◌, ℕ, [], List, Some, None, ◌∙◌, ap, length, set}
use Rattle.std.specs.List.{position}
use Rattle.std.specs.Str.{bytes_eq}
use Rattle.std.specs.Option.{unwrap_or}
use Rattle.msc_base.specs.NameTables.{with_name}
use Rattle.general_ordering.specs.NamedEvents.{group_of, own_group, value_at}
use Rattle.general_ordering.proofs.Groups.{added_old, added_new, even_new, when_ok}
use Rattle.general_ordering.proofs.named.NamedEvents.add.Goals as goal

pub returns-in-Some-clause-added : goal.returns-in-Some-clause-added
returns-in-Some-clause-added c =
    let at : position (bytes_eq c.args.name.now) c.args.self.now.names ≡ Some c.in-Some.index = search rules in
    when_ok c.push.result (c.push.new.self ≡ c.index_mut.result.now ++ c.args.number ∷ [])
    ((other : List ℕ) → unwrap_or (value_at (position (bytes_eq other) c.args.self.now.names) (set c.args.self.now.groups.items c.in-Some.index c.push.new.self)) [] ≡ group_of c.args.self.now other ++ own_group c.args.name.now c.args.number other)
    c.push.ensures.ok
    (λ made other. added_old c.args.self.now.names c.args.self.now.groups.items c.args.name.now c.args.number c.requires c.in-Some.index c.index_mut.result.now c.push.new.self at c.index_mut.ensures.value made other)

pub returns-in_ok-push-in-None-clause-even : goal.returns-in_ok-push-in-None-clause-even
returns-in_ok-push-in-None-clause-even c =
    let none : position (bytes_eq c.args.name.now) c.args.self.now.names ≡ None = search rules in
    let items : c.push-in-None.new.self.items ≡ c.args.self.now.groups.items ++ c.in_ok-list-in-None.list ∷ [] = search rules in
    let same : c.bytes-in-None.result.now ≡ c.args.name.now = search rules in
    when_ok c.add.result (c.add.new.self ≡ with_name c.args.self.now.names c.bytes-in-None.result.now) (length c.push-in-None.new.self.items ≡ length c.add.new.self)
    c.add.ensures.ok
    (λ made. even_new c.args.self.now.names c.args.self.now.groups.items c.args.name.now c.requires none c.in_ok-list-in-None.list c.push-in-None.new.self.items c.add.new.self items (made ∙ ap (with_name c.args.self.now.names) same))

pub returns-in_ok-push-in-None-clause-added : goal.returns-in_ok-push-in-None-clause-added
returns-in_ok-push-in-None-clause-added c =
    let none : position (bytes_eq c.args.name.now) c.args.self.now.names ≡ None = search rules in
    let items : c.push-in-None.new.self.items ≡ c.args.self.now.groups.items ++ c.in_ok-list-in-None.list ∷ [] = search rules in
    let list : c.in_ok-list-in-None.list ≡ c.args.number ∷ [] = search rules in
    let same : c.bytes-in-None.result.now ≡ c.args.name.now = search rules in
    when_ok c.add.result (c.add.new.self ≡ with_name c.args.self.now.names c.bytes-in-None.result.now)
    ((other : List ℕ) → unwrap_or (value_at (position (bytes_eq other) c.add.new.self) c.push-in-None.new.self.items) [] ≡ group_of c.args.self.now other ++ own_group c.args.name.now c.args.number other)
    c.add.ensures.ok
    (λ made other.
    ap (λ (n : List (List ℕ)). unwrap_or (value_at (position (bytes_eq other) n) c.push-in-None.new.self.items) []) (made ∙ ap (with_name c.args.self.now.names) same)
    ∙ ap (λ (g : List (List ℕ)). unwrap_or (value_at (position (bytes_eq other) (with_name c.args.self.now.names c.args.name.now)) g) []) (items ∙ ap (λ (l : List ℕ). c.args.self.now.groups.items ++ l ∷ []) list)
    ∙ added_new c.args.self.now.names c.args.self.now.groups.items c.args.name.now c.args.number c.requires none other)
