use Rattle.choice_terms.proofs.ChoiceLaws.{choices_have_parts}
use Rattle.choice_terms.proofs.laws.choices_have_parts.Goals as goal

pub returns : goal.returns
returns c = choices_have_parts
    (record {
      far = c.far_ends_change_nothing.ensures;
      agree = c.made_terms_agree.ensures;
      mean = c.taken_items_mean.ensures;
      ranked = c.ranked_expansions_are_sound.ensures;
      sound = c.made_terms_are_sound.ensures;
    })
    c.events_are_placed.ensures c.walks_are_drawn.ensures c.nodes_are_ranked.ensures c.ends_are_found.ensures
