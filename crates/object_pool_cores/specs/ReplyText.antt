-- The text of a reply, without its line feed.
use Rattle.std.specs.Prelude.{◌≡◌, ℕ, Option, Some, None, List, ◌++◌, [], codes, option_map}
use Rattle.std.specs.Fmt.{decimal}
use Rattle.object_pool_cores.specs.Item.{item_value}
use Rattle.pool_parts.specs.declared.pull_error.PullError.{PullError}
use Rattle.pool_parts.specs.declared.pull_error.PullError.TheVariants.{Memory, Init, Limit, Closed}
use Rattle.object_pool_cores.specs.declared.sequential.attach_error.AttachError.{AttachError}
use Rattle.object_pool_cores.specs.declared.sequential.attach_error.AttachError.TheVariants as attach
use Rattle.object_pool_cores.specs.declared.sequential.reply.Reply.{Reply}
use Rattle.object_pool_cores.specs.declared.sequential.reply.Reply.TheVariants.{Pulled, Refused, Written, Returned}
use Rattle.object_pool_cores.specs.declared.sequential.reply.Reply.TheVariants.{Forgotten, Attached, AttachRefused}
use Rattle.object_pool_cores.specs.declared.sequential.reply.Reply.TheVariants.{NoSuchHolder}
use Rattle.object_pool_cores.specs.declared.sequential.item.Item.{Item}
use Rattle.object_pool_cores.specs.declared.sequential.command.Command.{Command}
use Rattle.object_pool_cores.specs.declared.sequential.command.Command.TheVariants.{Pull, Write, Return, Forget, Attach}
use Rattle.object_pool_cores.specs.Held.{held_at}

-- the number of an item, where it has one
abbrev pub number_text : Option ℕ → List ℕ
number_text None = []
number_text (Some n) = codes " number " ++ decimal n

-- why a pull was refused
abbrev pub refusal_text : PullError → List ℕ
refusal_text Memory = codes "refused memory"
refusal_text Init = codes "refused init"
refusal_text Limit = codes "refused limit"
refusal_text Closed = codes "refused closed"

-- why an attach was refused
abbrev pub attach_refusal_text : AttachError ℕ → List ℕ
attach_refusal_text (attach.Memory value) = codes "refused memory"
attach_refusal_text (attach.NotOffered value) = codes "not offered"

-- the text of a pulled item: its holder's index, its number where it has one, and its value
abbrev pub pulled_text : ℕ → Option ℕ → ℕ → List ℕ
pulled_text holder number value =
    codes "pulled " ++ decimal holder ++ number_text number ++ codes " value " ++ decimal value

-- the index that a command names; 0 for a pull and an attach, which name none
abbrev pub command_index : Command ℕ → ℕ
command_index Pull = 0
command_index (Write index value) = index
command_index (Return index) = index
command_index (Forget index) = index
command_index (Attach value) = 0

-- the text of a reply to a command that names this index, with what is held afterwards
abbrev pub IsReplyText : ℕ → List (Option (Item ℕ)) → Reply ℕ → List ℕ → Type 0
IsReplyText index held (Pulled holder number) text =
    (value : ℕ) × (option_map item_value (held_at held holder) ≡ Some value) × (text ≡ pulled_text holder number value)
IsReplyText index held (Refused cause) text = text ≡ refusal_text cause
IsReplyText index held Written text = text ≡ codes "written " ++ decimal index
IsReplyText index held Returned text = text ≡ codes "returned " ++ decimal index
IsReplyText index held Forgotten text = text ≡ codes "forgotten " ++ decimal index
IsReplyText index held (Attached holder) text = text ≡ codes "attached " ++ decimal holder
IsReplyText index held (AttachRefused error) text = text ≡ attach_refusal_text error
IsReplyText index held NoSuchHolder text = text ≡ codes "no such holder"
