use Rattle.token_grammar.specs.Languages.{just, names}
use Rattle.token_grammar.proofs.Optionals.{none}
use Rattle.token_grammar.proofs.Exact.{exact_reader, one_reading}
use Rattle.msc_events.specs.Declarations.{heading, decl_list, declaration, head}
use Rattle.msc_events.specs.DeclarationReaders.{heading_at, decl_list_at, declaration_at, head_at, head_words}
use Rattle.msc_events.proofs.DeclarationRules.{after_decls, heading_rule, decl_list_rule, declaration_rule, head_rule}
use Rattle.std.proofs.Common.{codes}
use Rattle.msc_events.proofs.laws.declarations_are_exact.Goals as goal

pub returns-clause-one_heading : goal.returns-clause-one_heading
returns-clause-one_heading c = one_reading heading (just (codes "mscdocument")) none heading_at heading_rule

pub returns-clause-heading : goal.returns-clause-heading
returns-clause-heading c = exact_reader heading (just (codes "mscdocument")) none heading_at heading_rule

pub returns-clause-one_list : goal.returns-clause-one_list
returns-clause-one_list c = one_reading decl_list names after_decls decl_list_at decl_list_rule

pub returns-clause-list : goal.returns-clause-list
returns-clause-list c = exact_reader decl_list names after_decls decl_list_at decl_list_rule

pub returns-clause-one_declaration : goal.returns-clause-one_declaration
returns-clause-one_declaration c = one_reading declaration (just (codes "instance")) none declaration_at declaration_rule

pub returns-clause-declaration : goal.returns-clause-declaration
returns-clause-declaration c = exact_reader declaration (just (codes "instance")) none declaration_at declaration_rule

pub returns-clause-one_head : goal.returns-clause-one_head
returns-clause-one_head c = one_reading head head_words none head_at head_rule

pub returns-clause-head : goal.returns-clause-head
returns-clause-head c = exact_reader head head_words none head_at head_rule
