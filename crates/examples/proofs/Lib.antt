mod NewWorlds
