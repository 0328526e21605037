use Rattle.std.proofs.Common.{arith}
use Rattle.ariadne_render.proofs.GutterState.{ready-for, offsets-len, offset-read}
use Rattle.ariadne_render.proofs.gutter.Gutter.start.Goals as goal

-- there is an offset for each column
pub index-requires : goal.index-requires
index-requires c =
    let ready = ready-for _ c.args.self.now _ _ c.self.view_is c.self.invariant in
    omega (arith, offsets-len c.args.self.now _ _ ready, c.requires.column, c.self.inside.starts.ok.0)

-- it is where the column begins
pub returns : goal.returns
returns c =
    let ready = ready-for _ c.args.self.now _ _ c.self.view_is c.self.invariant in
    offset-read c.args.self.now _ _ ready c.args.column _ c.requires.column c.index.ensures
