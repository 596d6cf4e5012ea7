use Rattle.std.proofs.Common.{◌≡◌, rules}
use Rattle.msc_requests.specs.declared.request.Request.TheVariants as requests
use Rattle.msc_cmd.proofs.Replies.{served}
use Rattle.msc_cmd.proofs.SampleReplies.{sample_read, sample_served, sample_small}
use Rattle.msc_cmd.proofs.command.serve.Goals as goal

pub returns-in-Check-clause-outcome : goal.returns-in-Check-clause-outcome
returns-in-Check-clause-outcome g c =
    let is : c.args.request.now ≡ requests.Check c.in-Check.document c.in-Check.json = search rules in
    served (g.S.Shelf.files c.args.shelf.now) c.args.request.now (requests.Check c.in-Check.document c.in-Check.json) c.check_file.result is c.check_file.ensures.outcome

pub returns-in-Choices-clause-outcome : goal.returns-in-Choices-clause-outcome
returns-in-Choices-clause-outcome g c =
    let is : c.args.request.now ≡ requests.Choices c.in-Choices.document c.in-Choices.chart = search rules in
    served (g.S.Shelf.files c.args.shelf.now) c.args.request.now (requests.Choices c.in-Choices.document c.in-Choices.chart) c.choices_file.result is c.choices_file.ensures.outcome

pub returns-in-List-clause-outcome : goal.returns-in-List-clause-outcome
returns-in-List-clause-outcome g c =
    let is : c.args.request.now ≡ requests.List c.in-List.document c.in-List.chart c.in-List.json = search rules in
    served (g.S.Shelf.files c.args.shelf.now) c.args.request.now (requests.List c.in-List.document c.in-List.chart c.in-List.json) c.list_file.result is c.list_file.ensures.outcome

pub returns-in-Sample-clause-small : goal.returns-in-Sample-clause-small
returns-in-Sample-clause-small g c = sample_small c.sample_reply.result c.sample_reply.ensures.small

pub returns-in-Sample-clause-outcome : goal.returns-in-Sample-clause-outcome
returns-in-Sample-clause-outcome g c =
    let is : c.args.request.now ≡ requests.Sample c.in-Sample.turns c.in-Sample.seed = search rules in
    sample_served (g.S.Shelf.files c.args.shelf.now) c.in-Sample.turns c.in-Sample.seed c.args.request.now c.sample_reply.result is c.sample_reply.ensures.outcome

pub returns-in-Sample-clause-failed : goal.returns-in-Sample-clause-failed
returns-in-Sample-clause-failed g c = sample_read _ c.sample_reply.result c.sample_reply.ensures.small
