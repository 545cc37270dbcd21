use Rattle.std.proofs.Common.{◌≡◌, string_bytes}
use Rattle.std.proofs.lemmas.Map.Text.{hash_map_updates_text}
use Rattle.std.proofs.lemmas.Result.{IfOk-at_ok}
use Rattle.trig_builder.proofs.prefixes.Prefixes.set.Goals as goal

pub returns : goal.returns
returns c q =
    let key_is_prefix = IfOk-at_ok (λ s. string_bytes s ≡ c.args.prefix.now) c.in_ok-prefix.was c.from_str.ensures.ok in
    let sets = hash_map_updates_text (string_bytes c.in_ok-prefix.prefix) c.args.self.now.iris c.insert.new.self _ c.in_ok-insert.ensures.updates q in
    rw (key_is_prefix, c.in_ok-iri.ensures) at sets
