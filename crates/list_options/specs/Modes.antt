-- The two modes of a listing (document 02, No. 6: "Add a second listing mode that is given the dialect. After an unquoted 8F that isn't the
-- second byte of a TSB pair it treats no byte as a prefix or a token and lists 61 to 7A as themselves; under BasicV2 it treats 64 as a prefix
-- nowhere, and Auto lists as Tsb. The old mode stays equal to the Rust"). Each mode is rules for the one walk; an 8F behind DATA opens a remark
-- too. Beyond the request, either mode also lists the lines that links lead to. Under BASIC 3.5 its words are listed, and 64 is no prefix
-- (document 02, No. 5: "The listing of an image under this dialect shows its words instead of `{CC}` to `{FD}`, and 64 is no prefix there").
-- Assumes nothing.
use Rattle.std.specs.Prelude.{Bool, true, false, not}
use Rattle.word_dialects.specs.Dialects.{is_basic35}
use Rattle.word_dialects.specs.declared.Dialect.{Dialect}
use Rattle.word_dialects.specs.declared.Dialect.TheVariants.{Auto, BasicV2, Tsb, Basic35}
use Rattle.image_readers.specs.declared.By.TheVariants.{Terminators}
use Rattle.image_units.specs.declared.Rules.{Rules}
use Rattle.list_options.specs.declared.ListOptions.{ListOptions}

-- whether 64 is a prefix, under a dialect and in the second mode or not
unfoldable pub heeds_prefix : Dialect → Bool → Bool
heeds_prefix Auto remarks = true
heeds_prefix BasicV2 remarks = not remarks
heeds_prefix Tsb remarks = true
heeds_prefix Basic35 remarks = false

-- what the walk over a body heeds
abbrev pub rules_under : ListOptions → Rules
rules_under o = record { prefix = heeds_prefix o.dialect o.remarks; remarks = o.remarks; items = false; basic35 = is_basic35 o.dialect }

-- the old mode (`old_mode`, crates/list_image/proofs/Agreeing.antt: under each dialect of document 01 it is `listing`)
abbrev pub original_options : ListOptions
original_options = record { dialect = Auto; remarks = false; by = Terminators }
