use Rattle.std.proofs.Common.{◌≡◌, ◌∙◌, length, ap, rules, sym}
use Rattle.chart_term.specs.Tables.{net_count}
use Rattle.term_tables.specs.NetTables.{tables_of}
use Rattle.term_tables.proofs.Tabling.{count_of}
use Rattle.term_tables.proofs.nets.Nets.count.Goals as goal

pub returns : goal.returns
returns c =
    let seen : net_count (tables_of c.self.inside.stored.items) ≡ net_count c.args.self.now.tables = ap (λ v. net_count v.tables) c.self.view_is in
    let len : c.len.result ≡ length c.self.inside.stored.items = search rules in
    len ∙ sym (count_of c.self.inside.stored.items) ∙ seen
