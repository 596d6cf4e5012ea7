-- Parts of what several instances share: which they are, conditions, and what the gates of a reference are joined with
-- (Z.120, clauses 4.5, 4.7 and 7.3).
use Rattle.std.specs.Prelude.{ℕ, List, [], Option, Some, None, codes}
use Rattle.msc_base.specs.declared.place.Place.{Place}
use Rattle.msc_tree.specs.declared.chart.Cover.{Cover}
use Rattle.msc_tree.specs.declared.chart.Cover.TheVariants.{All, Listed}
use Rattle.msc_tree.specs.declared.reference.Join.{Join}
use Rattle.msc_tree.specs.declared.reference.JoinEnd.{JoinEnd}
use Rattle.msc_tree.specs.declared.reference.JoinEnd.TheVariants.{Env, Reference}
use Rattle.token_grammar.specs.Languages.{just}
use Rattle.token_grammar.specs.Grammars.{Grammar, word, seq, or, read_as, optional, behind}
use Rattle.token_grammar.specs.Parts.{name, placed_name, ending, placed, separated, name_list}
use Rattle.msc_events.specs.declared.orientation.Orientation.{Orientation}
use Rattle.msc_events.specs.declared.orientation.Orientation.TheVariants as written

-- "all" | names
abbrev pub sharers : Grammar Cover
sharers = or (read_as (λ t. All) (word (just (codes "all")))) (read_as Listed name_list)

abbrev pub cover_of : Option Cover → Cover
cover_of None = Listed []
cover_of (Some cover) = cover

-- shared = "shared" [ "all" | names ], and what stands behind it
abbrev pub shared : {A : Type 0} → Grammar A → Grammar (Cover × A)
shared next = behind (just (codes "shared")) (optional cover_of sharers next)

-- in a column [ shared ], elsewhere nothing, and what stands behind it
abbrev pub shared_in : {A : Type 0} → Orientation → Grammar A → Grammar (Option Cover × A)
shared_in written.Column next = or (read_as (λ p. (Some p.0, p.1)) (shared next)) (read_as (λ a. (None, a)) next)
shared_in written.Covered next = read_as (λ a. (None, a)) next

-- "condition" names [ shared ] end, with its place
abbrev pub condition : Orientation → Grammar (Place × List (List ℕ) × Option Cover)
condition orientation = read_as (λ p. (p.0, p.1.0, p.1.1.0)) (placed (just (codes "condition")) (seq name_list (shared_in orientation ending)))

-- "env" "via" name | "reference" name "via" name
abbrev pub join_end : Grammar JoinEnd
join_end = or (read_as Env (behind (just (codes "env")) (behind (just (codes "via")) name)))
    (read_as (λ p. Reference p.0 p.1) (behind (just (codes "reference")) (seq name (behind (just (codes "via")) name))))

-- join = name "to" join_end
abbrev pub join : Grammar Join
join = read_as (λ p. record { gate = p.0.0; to = p.1; place = p.0.1 }) (seq placed_name (behind (just (codes "to")) join_end))

-- joins = "via" join { "," join }
abbrev pub joins : Grammar (List Join)
joins = behind (just (codes "via")) (separated (codes ",") join)
