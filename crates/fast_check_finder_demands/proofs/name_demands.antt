mod Unaliased
