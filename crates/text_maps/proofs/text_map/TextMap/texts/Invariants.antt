use Rattle.std.proofs.Common.{◌≡◌, map, string_bytes}
use Rattle.text_maps.proofs.text_map.TextMap.texts.Given as goal

-- the keys so far were copied
abbrev pub invariant-loop-key : goal.invariant-loop-key
invariant-loop-key g l = l.texts.items ≡ map (λ k. string_bytes k.now) l.yielded
