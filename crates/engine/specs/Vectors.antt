-- The engine block, by computation: where the tag's bytes stand. Assumes nothing.
use Rattle.std.specs.Prelude.{◌≡◌, refl, [], ◌∷◌, ◌++◌, replicate}
use Rattle.engine.specs.Engine.{zeros, engine_block}

load : engine_block (replicate 64 0xEE) 0x1122_3344_5566_7788 ≡ replicate 64 0xEE ++ (0x88 ∷ 0x77 ∷ 0x66 ∷ 0x55 ∷ 0x44 ∷ 0x33 ∷ 0x22 ∷ 0x11 ∷ zeros 56)
load = refl

unload : engine_block [] 0x0000_0001_0000_0002 ≡ zeros 64 ++ (2 ∷ 0 ∷ 0 ∷ 0 ∷ 1 ∷ 0 ∷ 0 ∷ 0 ∷ zeros 56)
unload = refl

clear : engine_block [] 0 ≡ zeros 128
clear = refl
