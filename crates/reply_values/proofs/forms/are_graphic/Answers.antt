use Rattle.std.proofs.Common.{◌≡◌, ◌∙◌, ap, sym}
use Rattle.std.specs.Char.{is_ascii_graphic}
use Rattle.std.specs.List.{list_all}
use Rattle.std.proofs.lemmas.List.{take_all}
use Rattle.std.proofs.lemmas.List.Sums.{AllPass-from_list_all, list_all-from_AllPass}
use Rattle.reply_values.proofs.forms.are_graphic.Goals as goal

pub returns : goal.returns
returns c =
    let bytes = c.args.bytes.now in
    let whole = take_all c.loop-byte.byte-index bytes c.loop-byte-test.false in
    let all : c.loop-byte.graphic ≡ list_all is_ascii_graphic bytes =
    c.loop-byte.invariant ∙ ap (list_all is_ascii_graphic) whole in (
      λ h. AllPass-from_list_all is_ascii_graphic bytes (sym all ∙ h),
      λ h. all ∙ list_all-from_AllPass is_ascii_graphic bytes h,
    )
