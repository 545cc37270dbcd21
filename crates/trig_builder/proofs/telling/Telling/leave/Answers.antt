use Rattle.std.proofs.Common.{refl, arith}
use Rattle.trig_builder.specs.Telling.{view_of}
use Rattle.trig_builder.proofs.Items.{left_told, left_sound}
use Rattle.trig_builder.proofs.telling.Telling.leave.Goals as goal

pub returns-clause-sound : goal.returns-clause-sound
returns-clause-sound c =
    left_sound (view_of c.args.self.now) c.args.self.now.outer.items c.pop-place.new.self.items c.pop-place.result c.unwrap_or.result c.args.self.now.outer.len c.pop-place.new.self.len
    refl (record {
      items = c.pop-place.ensures.items;
      cases = c.pop-place.ensures.cases;
      old_len_is = omega (arith, c.args.self.now.outer.ok.0);
      new_len_is = omega (arith, c.pop-place.new.self.ok.0);
    }) c.unwrap_or.ensures c.requires

pub returns-clause-tells : goal.returns-clause-tells
returns-clause-tells c t h =
    left_told (view_of c.args.self.now) t c.args.self.now.outer.items c.pop-place.new.self.items c.pop-place.result c.unwrap_or.result c.args.self.now.outer.len c.pop-place.new.self.len
    refl (record {
      items = c.pop-place.ensures.items;
      cases = c.pop-place.ensures.cases;
      old_len_is = omega (arith, c.args.self.now.outer.ok.0);
      new_len_is = omega (arith, c.pop-place.new.self.ok.0);
    }) c.unwrap_or.ensures h
