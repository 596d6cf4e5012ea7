use Rattle.std.proofs.Common.{◌≡◌, ◌∷◌, ◌-◌, ◌<◌, List, arith, drop, length, subst, sym}
use Rattle.msc_tree.specs.declared.reference.Join.{Join}
use Rattle.level_surroundings.specs.HeldGates.{HasLeads}
use Rattle.level_surroundings.proofs.Dropped.{drop_less, item_at}
use Rattle.level_surroundings.proofs.joins.leads_of.Goals as goal

pub loop-index-preserved : goal.loop-index-preserved
loop-index-preserved c =
    let joins = c.args.joins.now in
    let below : c.loop-index.index - 1 < length joins = omega (arith, c.loop-index.invariant.within) in
    let before : drop (c.loop-index.index - 1) joins ≡ c.index-joins-index.result ∷ drop c.loop-index.index joins =
    drop_less joins (c.loop-index.index - 1) c.loop-index.index c.index-joins-index.result (item_at joins (c.loop-index.index - 1) c.index-joins-index.result below c.index-joins-index.is) (omega arith) in
    record {
      within = omega (arith, c.loop-index.invariant.within);
      leads = subst (λ (js : List Join). HasLeads c.add_lead.new.leads js) (sym before) (c.in_ok-add_lead.ensures (drop c.loop-index.index joins) c.loop-index.invariant.leads);
    }
