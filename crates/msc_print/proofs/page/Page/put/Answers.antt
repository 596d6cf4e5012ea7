use Rattle.msc_print.proofs.Sheets.{put_parts}
use Rattle.msc_print.proofs.page.Page.put.Goals as goal

pub returns : goal.returns
returns c =
    put_parts c.args.self.now c.args.token.now c.self.inside.held.items c.set_apart.new.held.items c.extend_from_slice.new.self.items c.end_line.new.held.items c.self.inside.close c.is_open-self-inside.result
    c.self.view_is c.in_ok-set_apart.ensures c.in_ok-extend_from_slice.ensures.items c.in_ok-end_line.ensures c.is_open-self-inside.ensures
