use Rattle.std.proofs.Common.{[], ◌≡◌, ◌∙◌, ◌∷◌, length, arith, rules, ap, sym, subst}
use Rattle.chart_term.specs.Spreads.{touch_all}
use Rattle.term_tables.specs.Unions.{IsUnion}
use Rattle.term_tables.specs.NetTables.{spread_at, AreStored, tables_of}
use Rattle.chart_term.specs.Terms.{trees}
use Rattle.term_tables.proofs.TouchFacts.{spreads-snoc}
use Rattle.std.proofs.lemmas.List.{length_push}
use Rattle.chart_term.specs.Tables.{net_count}
use Rattle.term_tables.specs.declared.nets.StoredNet.{StoredNet}
use Rattle.term_tables.proofs.Tabling.{tables_of-snoc, count_of, sized-snoc}
use Rattle.term_tables.proofs.nets.Nets.add_net.Goals as goal

pub invariant_of-self-2 : goal.invariant_of-self-2
invariant_of-self-2 c =
    let new : StoredNet = record { net = c.args.net; nodes = c.args.nodes; spread = c.add_all.new.block } in
    let count = count_of c.self.inside.stored.items in
    let seen : net_count (tables_of c.self.inside.stored.items) ≡ net_count c.args.self.now.tables = ap (λ v. net_count v.tables) c.self.view_is in
    let few = c.requires.few in
    let union : IsUnion [] (touch_all (spread_at c.self.inside.stored.items) (trees c.args.nodes)) c.add_all.new.block.instances = search rules in
    subst AreStored (sym c.in_ok-push.ensures.items) (record {
      few = omega (arith, length_push c.self.inside.stored.items new, count, seen, few);
      sized = sized-snoc c.self.inside.stored.items new c.self.invariant.sized c.requires.sized;
      spread = spreads-snoc c.self.inside.stored.items new c.self.invariant.spread union;
    })

pub returns-clause-number : goal.returns-clause-number
returns-clause-number c =
    let seen : net_count (tables_of c.self.inside.stored.items) ≡ net_count c.args.self.now.tables = ap (λ v. net_count v.tables) c.self.view_is in
    let len : c.len-number.result ≡ length c.self.inside.stored.items = search rules in
    len ∙ sym (count_of c.self.inside.stored.items) ∙ seen

pub returns-clause-ok : goal.returns-clause-ok
returns-clause-ok c =
    let new : StoredNet = record { net = c.args.net; nodes = c.args.nodes; spread = c.add_all.new.block } in
    let tables : tables_of c.push.new.self.items ≡ record { net = c.args.net; nodes = c.args.nodes } ∷ tables_of c.self.inside.stored.items = ap tables_of c.in_ok-push.ensures.items ∙ tables_of-snoc c.self.inside.stored.items new in
    (λ i. record { labels = c.self.inside.labels; tables = tables i }) ∙ ap (λ v. record { labels = v.labels; tables = record { net = c.args.net; nodes = c.args.nodes } ∷ v.tables }) c.self.view_is
