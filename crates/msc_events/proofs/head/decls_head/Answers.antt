use Rattle.std.proofs.Common.{◌∙◌, ◌++◌, List, refl, sym, subst, codes}
use Rattle.msc_tree.specs.declared.chart.Decl.{Decl}
use Rattle.token_grammar.specs.Languages.{Read}
use Rattle.token_grammar.specs.Answers.{Fails}
use Rattle.msc_events.specs.Declarations.{of_decls}
use Rattle.msc_events.specs.DeclarationReaders.{decl_list_at, line_at}
use Rattle.msc_events.proofs.HeadLists.{line_mapped, head_ends, head_stops}
use Rattle.msc_events.proofs.head.decls_head.Goals as goal

pub returns-in-Ok : goal.returns-in-Ok
returns-in-Ok c =
    head_ends of_decls (λ l. c.args.prefix.decls ++ l) c.args.prefix (λ l. record { decls = l; messages = c.args.prefix.messages; timers = c.args.prefix.timers }) (λ a. refl) c.in-Ok.decls c.in-Ok.rest.now
    (line_at (codes "inst") decl_list_at c.args.tokens.now) (sym (line_mapped (codes "inst") decl_list_at (λ l. c.args.prefix.decls ++ l) c.args.tokens.now) ∙ c.in-Ok.ensures)

pub returns-in-Err : goal.returns-in-Err
returns-in-Err c =
    head_stops of_decls (λ l. c.args.prefix.decls ++ l) c.args.prefix c.in-Err.fault (line_at (codes "inst") decl_list_at c.args.tokens.now)
    (subst (λ (x : Read (List Decl)). Fails c.in-Err.fault x) (line_mapped (codes "inst") decl_list_at (λ l. c.args.prefix.decls ++ l) c.args.tokens.now) c.in-Err.ensures)
