-- The story that its fields stand for.
use Rattle.gx_story.specs.Stories.{FlatStory, IsStory}
use Rattle.gx_story.specs.declared.stories.Story.TheInside.{Inside}

abbrev pub flat_story : Inside → FlatStory
flat_story inside = record { header = inside.header; bytes = inside.bytes }

abbrev pub IsSound : Inside → Type 0
IsSound inside = IsStory (flat_story inside)
