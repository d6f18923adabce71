use Rattle.std.proofs.Common.{◌≡◌, ◌<◌, [], ℕ, List, length, refl, append-nil, sym, subst, ◌∙◌, arith}
use Rattle.std.proofs.lemmas.List.Elements.{All-nil}
use Rattle.luma_field.specs.Raster.{size_of, RasterSize}
use Rattle.line_file.specs.LineHeader.{header_bytes}
use Rattle.signal_commands.specs.LumaVitc.{luma_header}
use Rattle.signal_commands.proofs.luma_vitc.ReadPixels.new.Goals as goal

pub returns-clause-stands : goal.returns-clause-stands
returns-clause-stands c =
    let luma = c.args.run.now in
    let size = size_of luma.raster in
    let none = All-nil (λ (field : List ℕ). length field ≡ size) in
    let raster : c.new.result.raster ≡ luma.raster = c.new.ensures.raster ∙ c.raster.ensures in
    let few : 0 < size = subst (λ (r : RasterSize). 0 < size_of r) raster c.new.ensures.stands.few in
    record {
      fields = [];
      part = [];
      has = record {
        raster = raster;
        taken = refl;
        within = omega arith;
        sizes = none;
        begun = c.new.ensures.stands;
      };
      are = refl;
      whole = c.joined_parts_are_taken_apart.ensures.apart size [] [] none few;
      lines = [];
      say = tt;
      file = sym (append-nil (header_bytes (luma_header luma)));
    }

pub returns-clause-going : goal.returns-clause-going
returns-clause-going c = ([], header_bytes (luma_header c.args.run.now), returns-clause-stands c)
