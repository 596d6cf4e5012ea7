use Rattle.join_sizes.proofs.sizes.join_sizes.Goals as goal

pub tied_sizes-requires-clause-linked : goal.tied_sizes-requires-clause-linked
tied_sizes-requires-clause-linked c = λ chart held b references is gathered name among.
    let linked = c.gathered_charts_are_known.ensures.named chart held b references is gathered name among in
    (linked.link, linked.says, linked.is)
