use Rattle.std.proofs.Common.{◌≤◌, ◌+◌, ◌-◌, ◌≡◌, length, sym, subst, arith, ◌∙◌}
use Rattle.std.proofs.KnownBytes.{Consumes-trans}
use Rattle.std.specs.Io.KnownBytes.{Consumes}
use Rattle.list.proofs.Front.{put_front, put_long, rest_long}
use Rattle.list.proofs.read_front.Goals as goal

pub loop-done-preserved : goal.loop-done-preserved
loop-done-preserved g c =
    let bytes = c.loop-done.bytes in
    let done = c.loop-done.done in
    let room = length bytes - done in
    let within = c.loop-done.invariant.within in
    let fits : done + room ≤ length bytes = omega arith in
    let long : length c.read.new.buf ≡ room = c.read.auto.buf ∙ rest_long bytes done within in
    let few : c.in_ok-got.got ≤ room = omega (arith, c.in_ok-got.ensures.bound.0) in
    record {
      within = omega (arith, put_long bytes c.read.new.buf done room fits long);
      taken =
          subst (Consumes (g.R.Read.remaining c.args.from.now) (g.R.Read.remaining c.read.new.self))
          (sym (put_front bytes c.read.new.buf done room c.in_ok-got.got fits long few))
          (Consumes-trans _ _ _ _ _ c.loop-done.invariant.taken c.in_ok-got.ensures.bytes.0);
    }
