-- Readers of the productions of what several instances share.
use Rattle.std.specs.Prelude.{ℕ, List, [], ◌++◌, Option, None, Ok, codes}
use Rattle.msc_base.specs.declared.place.Place.{Place}
use Rattle.msc_tokens.specs.declared.token.Token.{Token}
use Rattle.msc_tree.specs.declared.chart.Cover.{Cover}
use Rattle.msc_tree.specs.declared.chart.Cover.TheVariants.{All, Listed}
use Rattle.msc_tree.specs.declared.reference.Join.{Join}
use Rattle.msc_tree.specs.declared.reference.JoinEnd.{JoinEnd}
use Rattle.msc_tree.specs.declared.reference.JoinEnd.TheVariants.{Env, Reference}
use Rattle.token_grammar.specs.Languages.{Set, Read, just, names, word_at, seq_at, either_at, map_at, optional_at, behind_at}
use Rattle.token_grammar.specs.Parts.{kept}
use Rattle.token_grammar.specs.PartReaders.{name_at, placed_name_at, placed_at, ending_at, separated_at, more_at, name_list_at}
use Rattle.msc_events.specs.Multis.{cover_of}
use Rattle.msc_events.specs.declared.orientation.Orientation.{Orientation}
use Rattle.msc_events.specs.declared.orientation.Orientation.TheVariants as written

abbrev pub sharers_at : List Token → Read Cover
sharers_at = either_at (just (codes "all")) (map_at (λ t. All) (word_at (just (codes "all")))) (map_at Listed name_list_at)

abbrev pub some_sharers_at : List Token → Read Cover
some_sharers_at = optional_at (just (codes "all") ++ names) cover_of sharers_at

abbrev pub shared_at : List Token → Read Cover
shared_at = behind_at (just (codes "shared")) some_sharers_at

abbrev pub shared_words : Orientation → Set
shared_words written.Column = just (codes "shared")
shared_words written.Covered = []

-- a shared list, where there is one
abbrev pub some_shared_at : List Token → Read (Option Cover)
some_shared_at = optional_at (just (codes "shared")) kept shared_at

abbrev pub nothing_shared_at : List Token → Read (Option Cover)
nothing_shared_at ts = Ok (None, ts)

-- a shared list, where it may stand and does
abbrev pub shared_in_at : Orientation → List Token → Read (Option Cover)
shared_in_at written.Column = some_shared_at
shared_in_at written.Covered = nothing_shared_at

abbrev pub condition_at : Orientation → List Token → Read (Place × List (List ℕ) × Option Cover)
condition_at orientation = map_at (λ p. (p.0, p.1.0, p.1.1.0)) (placed_at (just (codes "condition")) (seq_at name_list_at (seq_at (shared_in_at orientation) ending_at)))

abbrev pub env_end_at : List Token → Read JoinEnd
env_end_at = map_at Env (behind_at (just (codes "env")) (behind_at (just (codes "via")) name_at))

abbrev pub reference_end_at : List Token → Read JoinEnd
reference_end_at = map_at (λ p. Reference p.0 p.1) (behind_at (just (codes "reference")) (seq_at name_at (behind_at (just (codes "via")) name_at)))

abbrev pub join_end_at : List Token → Read JoinEnd
join_end_at = either_at (just (codes "env")) env_end_at reference_end_at

abbrev pub join_at : List Token → Read Join
join_at = map_at (λ p. record { gate = p.0.0; to = p.1; place = p.0.1 }) (seq_at placed_name_at (behind_at (just (codes "to")) join_end_at))

abbrev pub comma_join_at : List Token → Read Join
comma_join_at = behind_at (just (codes ",")) join_at

abbrev pub more_joins_at : List Join → ℕ → List Token → Read (List Join)
more_joins_at = more_at (just (codes ",")) comma_join_at

abbrev pub join_list_at : List Token → Read (List Join)
join_list_at = separated_at (codes ",") join_at

abbrev pub joins_at : List Token → Read (List Join)
joins_at = behind_at (just (codes "via")) join_list_at
