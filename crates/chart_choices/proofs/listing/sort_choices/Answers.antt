use Rattle.std.proofs.Common.{◌≡◌, rules}
use Rattle.std.proofs.lemmas.List.Sorted.{answers_always}
use Rattle.chart_choices.proofs.Places.{kept_by, ordered_by, place_key}
use Rattle.chart_choices.proofs.listing.sort_choices.Goals as goal

pub returns-clause-ordered : goal.returns-clause-ordered
returns-clause-ordered c = ordered_by _ (c.in_ok-sort_by_key.ensures.sorted place_key (answers_always _ (λ a r. r ≡ place_key a.0.now) _ (λ f a r f' k. search rules)))

pub returns-clause-kept : goal.returns-clause-kept
returns-clause-kept c = kept_by _ _ (c.in_ok-sort_by_key.ensures.stable place_key (answers_always _ (λ a r. r ≡ place_key a.0.now) _ (λ f a r f' k. search rules)))
