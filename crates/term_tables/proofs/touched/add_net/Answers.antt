use Rattle.std.proofs.lemmas.Bool.{ltb-true, ltb-false}
use Rattle.std.proofs.Common.{◌≤◌, List, ℕ, length, ap, sym, subst, refl}
use Rattle.std.proofs.lemmas.Option.{slice_get_read}
use Rattle.std.proofs.lemmas.Result.{on_ok_weaker}
use Rattle.bit_sets.specs.Blocks.{BlockValue}
use Rattle.chart_term.specs.Terms.{has}
use Rattle.term_tables.specs.NetTables.{spread_at}
use Rattle.term_tables.specs.Unions.{IsUnion}
use Rattle.term_tables.proofs.TouchFacts.{union-insert, union-none, spread-read, spread-beyond}
use Rattle.term_tables.proofs.touched.add_net.Goals as goal

pub returns-in-Some : goal.returns-in-Some
returns-in-Some c =
    let read = slice_get_read c.args.stored.now (length c.args.stored.now) c.args.net c.in-Some.older.now refl (ltb-true c.args.net (length c.args.stored.now) (sym c.in-Some.ensures.lookup.0)) c.in-Some.ensures.lookup.1 in
    on_ok_weaker c.add_instances.result (λ e. union-insert c.args.block.now.instances c.in-Some.older.now.spread.instances (spread_at c.args.stored.now c.args.net) c.add_instances.new.self.instances (λ n. ap (λ l. has l n) (spread-read c.args.stored.now c.args.net c.in-Some.older.now read)) (ap (λ (b : BlockValue). b.instances) e)) c.add_instances.ensures.ok

pub returns-in-None : goal.returns-in-None
returns-in-None c =
    let past : length c.args.stored.now ≤ c.args.net = ltb-false c.args.net (length c.args.stored.now) (sym c.in-None.ensures.lookup.0) in
    subst (λ (l : List ℕ). IsUnion c.args.block.now.instances l c.args.block.now.instances) (sym (spread-beyond c.args.stored.now c.args.net past)) (union-none c.args.block.now.instances)
