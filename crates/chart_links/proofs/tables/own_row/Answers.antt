use Rattle.std.proofs.Common.{◌≡◌, ◌↔◌, ◌⊎◌, ◌+◌, ◌∷◌, ℕ, List, true, None, Some, drop, map, subst, sym, ap, ◌∙◌, arith}
use Rattle.std.proofs.lemmas.Bool.{true≢false}
use Rattle.std.specs.List.{position}
use Rattle.std.specs.Str.{bytes_eq}
use Rattle.bit_sets.specs.Blocks.{has_bit}
use Rattle.list_facts.proofs.Reading.{drop_end, drop_read}
use Rattle.msc_base.specs.Lists.{IsAmong}
use Rattle.chart_links.specs.LinkViews.{link_view}
use Rattle.chart_links.specs.Links.{IsRefined}
use Rattle.chart_links.specs.Tables.{OwnAmong}
use Rattle.chart_links.proofs.TableFacts.{nothing_left, nothing_yet, own_found, own_missed}
use Rattle.chart_links.proofs.tables.own_row.Goals as goal
use Rattle.chart_links.proofs.tables.own_row.Goals.{in-Some+in_ok-add, in_default}

pub loop-instance-init : goal.loop-instance-init
loop-instance-init c = nothing_yet c.new-row.result c.new-row.ensures (OwnAmong c.args.known.now (map link_view c.args.links.now) c.args.instances.now)

pub loop-instance-preserved-then-has : goal.loop-instance-preserved-then-has
loop-instance-preserved-then-has c =
    let known = c.args.known.now in
    let links = map link_view c.args.links.now in
    let all = c.args.instances.now in
    let i = c.loop-instance.instance-index in
    let name : List ℕ = c.instance-item.result in
    let row = c.loop-instance.row in
    let All : ℕ → Type 0 = OwnAmong known links all in
    let now : (n : ℕ) → ((has_bit row n ≡ true) ⊎ OwnAmong known links (name ∷ drop (i + 1) all) n) ↔ All n =
    subst (λ (l : List (List ℕ)). (n : ℕ) → ((has_bit row n ≡ true) ⊎ OwnAmong known links l n) ↔ All n) (drop_read all i name c.loop-instance-test.true c.instance-item.is) c.loop-instance.invariant in
    let refined : IsRefined links name = (c.in_ok-refined.ensures name).0 (subst (IsAmong c.in_ok-refined.refined) c.bytes.ensures.bytes (c.has.ensures.is.0 c.if-has.true)) in
    own_missed known links name (drop (i + 1) all) row All (λ n plain is. plain refined) now

pub loop-instance-preserved : goal.loop-instance-preserved
loop-instance-preserved c =
    let known = c.args.known.now in
    let links = map link_view c.args.links.now in
    let all = c.args.instances.now in
    let i = c.loop-instance.instance-index in
    let name : List ℕ = c.instance-item.result in
    let row = c.loop-instance.row in
    let rest = drop (i + 1) all in
    let All : ℕ → Type 0 = OwnAmong known links all in
    let now : (n : ℕ) → ((has_bit row n ≡ true) ⊎ OwnAmong known links (name ∷ rest) n) ↔ All n =
    subst (λ (l : List (List ℕ)). (n : ℕ) → ((has_bit row n ≡ true) ⊎ OwnAmong known links l n) ↔ All n) (drop_read all i name c.loop-instance-test.true c.instance-item.is) c.loop-instance.invariant in
    let plain : IsRefined links name → ⊥ = λ r.
    let there : IsAmong c.in_ok-refined.refined c.bytes.result.now = subst (IsAmong c.in_ok-refined.refined) (sym c.bytes.ensures.bytes) ((c.in_ok-refined.ensures name).1 r) in
    true≢false (sym (c.has.ensures.is.1 there) ∙ c.if-has.false) in
    let number : position (bytes_eq name) known ≡ c.number_of.result = ap (λ (l : List ℕ). position (bytes_eq l) known) (sym c.bytes-in-loop-instance.ensures.bytes) ∙ sym c.number_of.ensures in
    elim c.match-number_of.branch [
      | in-Some+in_ok-add w ↦
          subst (λ (l : List ℕ). (n : ℕ) → ((has_bit l n ≡ true) ⊎ OwnAmong known links rest n) ↔ All n) (sym w.row-is)
          (own_found known links name rest row w.add.new.self w.in-Some.number All plain w.in_ok-add.ensures (number ∙ w.in-Some.is) now)
      | in_default w ↦
          let none : position (bytes_eq name) known ≡ None = number ∙ w.in_default.is in
          subst (λ (l : List ℕ). (n : ℕ) → ((has_bit l n ≡ true) ⊎ OwnAmong known links rest n) ↔ All n) (sym w.row-is)
          (own_missed known links name rest row All (λ n p is. let e : Some n ≡ None = sym is ∙ none in absurd (cc)) now)
    ]

pub returns : goal.returns
returns c =
    let known = c.args.known.now in
    let links = map link_view c.args.links.now in
    let all = c.args.instances.now in
    let rest = drop c.loop-instance.instance-index all in
    let none : (n : ℕ) → OwnAmong known links rest n → ⊥ = λ n h. subst (λ (l : List (List ℕ)). OwnAmong known links l n) (drop_end all c.loop-instance.instance-index (λ lt. omega (arith, lt, c.loop-instance-test.false))) h in
    nothing_left c.loop-instance.row (OwnAmong known links rest) (OwnAmong known links all) none c.loop-instance.invariant
