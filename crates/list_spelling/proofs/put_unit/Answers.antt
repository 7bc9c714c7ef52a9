-- `list_spelling::put_unit` meets its contract: in each arm the unit is known, and its text is stored.
-- Assumes nothing.
use Rattle.list_spelling.proofs.Held.{byte_text_short, remark_text_short, held_few, held_long}
use Rattle.list_spelling.proofs.Spelling.{filled, emptied, char_text, token_text_lem, token35_text, pair_word, pair_unknown, lone_text, remarked_text, room_of, put_of}
use Rattle.list_spelling.proofs.put_unit.Goals as goal

pub shared_ref_as_front-put : goal.shared_ref_as_front-put
shared_ref_as_front-put c = search (held_few, byte_text_short)

pub slice_bounds-put-end : goal.slice_bounds-put-end
slice_bounds-put-end c = search held_long

pub put-requires : goal.put-requires
put-requires c = search (room_of, char_text)

pub put_token-requires : goal.put_token-requires
put_token-requires c = search (room_of, token_text_lem)

pub put_token-requires-in-Token35 : goal.put_token-requires-in-Token35
put_token-requires-in-Token35 c = search (room_of, token35_text)

pub put-requires-else-is_empty : goal.put-requires-else-is_empty
put-requires-else-is_empty c = search (room_of, pair_word, filled)

pub returns-else-is_empty : goal.returns-else-is_empty
returns-else-is_empty c = search (put_of, pair_word, filled)

pub put-requires-then-is_empty : goal.put-requires-then-is_empty
put-requires-then-is_empty c = search (room_of, pair_unknown, emptied)

pub put-requires-in-Lone : goal.put-requires-in-Lone
put-requires-in-Lone c = search (room_of, lone_text)

pub shared_ref_as_front-put-in-Remarked : goal.shared_ref_as_front-put-in-Remarked
shared_ref_as_front-put-in-Remarked c = search (held_few, remark_text_short)

pub put-requires-in-Remarked : goal.put-requires-in-Remarked
put-requires-in-Remarked c = search (room_of, remarked_text)

pub returns-in-Char : goal.returns-in-Char
returns-in-Char c = search (put_of, char_text)

pub returns-in-Token : goal.returns-in-Token
returns-in-Token c = search (put_of, token_text_lem)

pub returns-in-Token35 : goal.returns-in-Token35
returns-in-Token35 c = search (put_of, token35_text)

pub returns-then-is_empty : goal.returns-then-is_empty
returns-then-is_empty c = search (put_of, pair_unknown, emptied)

pub returns-in-Lone : goal.returns-in-Lone
returns-in-Lone c = search (put_of, lone_text)

pub returns-in-Remarked : goal.returns-in-Remarked
returns-in-Remarked c = search (put_of, remarked_text)

pub slice_bounds-put-end-in-Remarked : goal.slice_bounds-put-end-in-Remarked
slice_bounds-put-end-in-Remarked c = search held_long
